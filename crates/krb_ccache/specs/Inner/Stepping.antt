-- What one step of a reader takes of a source and leaves at hand.
use Rattle.std.specs.Prelude.{◌≡◌, ◌≢◌, ◌⊎◌, ℕ, ◌+◌, ◌<◌, ◌≤◌, max, Bool, false, List, [], ◌++◌, length, Option, Some, None, Result, Ok, Err}
use Rattle.std.specs.Io.KnownBytes.{Consumes, IsAtEnd}
use Rattle.krb_file.specs.Window.{Skips}
use Rattle.krb_file.specs.Hand.{Hand}
use Rattle.krb_ccache.specs.Types.{Credential, Layout, CacheFault, BadItem, TooLong, Read, OutOfMemory}
use Rattle.krb_ccache.specs.Format.{Spells}
use Rattle.krb_file.specs.File.{file_limit}
use Rattle.krb_ccache.specs.declared.walking.TakeFault.{TakeFault}
use Rattle.krb_ccache.specs.declared.walking.TakeFault.TheVariants as stop
use Rattle.krb_ccache.specs.Inner.Standing.{bytes_of, spelled_as}

-- a thing that is in range is spelled at the front
pub record Stands {X : Type 0} (spelled : X → List ℕ) (InRange : X → Type 0) (bytes : List ℕ) (x : X) : Type 0 where
  pub fits : InRange x
  pub others : List ℕ
  pub bytes_are : bytes ≡ spelled x ++ others

-- nothing is at hand
abbrev pub cleared : Hand → Hand
cleared window = record window { bytes = [] }

-- anything is in range
abbrev pub Any : {X : Type 0} → X → Type 0
Any x = Unit {0}

-- the source gave the bytes of this thing, and no more
pub record Comes {X : Type 0} (spelled : X → List ℕ) (InRange : X → Type 0) (old new : Hand) (x : X) : Type 0 where
  pub fits : InRange x
  pub consumed : Consumes old.source new.source (spelled x)
  pub given : new.given ≡ old.given + length (spelled x)
  pub within : new.given ≤ file_limit
  pub peak : new.peak ≡ max old.peak (length (spelled x))

-- such a thing is at hand, and whichever is was given
pub record IsPassed {X : Type 0} (spelled : X → List ℕ) (InRange : X → Type 0) (old new : Hand) : Type 0 where
  pub some : X
  pub stands : Stands spelled InRange new.bytes some
  pub comes : (x : X) → Stands spelled InRange new.bytes x → Comes spelled InRange old new x

-- the source gave these bytes, and at most one past the limit; at most as many are at hand
pub record Gives (old new : Hand) (bytes : List ℕ) : Type 0 where
  pub consumed : Consumes old.source new.source bytes
  pub given : new.given ≡ old.given + length bytes
  pub grows : old.peak ≤ new.peak
  pub peak : new.peak ≤ max old.peak (length bytes)
  pub limit : old.peak ≤ file_limit → new.peak ≤ file_limit
  pub one_past : new.given ≤ file_limit + 1

-- the source was read out: up to its end, or to one byte past the limit
pub record Runs (old new : Hand) : Type 0 where
  pub piece : List ℕ
  pub skips : Skips old.source new.source (cleared old) new piece
  pub one_past : new.given ≤ file_limit + 1

-- what is answered then in place of a fault
abbrev pub Tells : Hand → CacheFault → CacheFault → Type 0
Tells new fault told =
    (told ≡ Read)
    ⊎ (((told ≡ TooLong) × (file_limit < new.given))
    ⊎ ((told ≡ fault) × (IsAtEnd new.source × (new.given ≤ file_limit))))

abbrev pub IsTold : Hand → Hand → TakeFault → CacheFault → CacheFault → Type 0
IsTold old new stop.End fault told = (told ≡ fault) × (new ≡ old)
IsTold old new stop.Long fault told = Runs old new × Tells new fault told
IsTold old new stop.Read fault told = (told ≡ Read) × (new ≡ old)
IsTold old new stop.OutOfMemory fault told = (told ≡ OutOfMemory) × (new ≡ old)

-- the source was read out, and there is no such thing within the limit at the front of its bytes
pub record Lacks {X : Type 0} (spelled : X → List ℕ) (InRange : X → Type 0) (old new : Hand) : Type 0 where
  pub bytes : List ℕ
  pub gives : Gives old new bytes
  pub one_past : new.given ≤ file_limit + 1
  pub missing : (x : X) (others : List ℕ) → InRange x → old.given + length (spelled x) ≤ file_limit → bytes ≢ spelled x ++ others

-- a fault that was found where a thing should stand
pub record Misses {X : Type 0} (spelled : X → List ℕ) (InRange : X → Type 0) (old new : Hand) (fault told : CacheFault) : Type 0 where
  pub some : (bytes : List ℕ) × Gives old new bytes
  pub lacks : told ≢ Read → told ≢ OutOfMemory → Lacks spelled InRange old new
  pub tells : told ≢ OutOfMemory → Tells new fault told

-- no credential came
abbrev pub MissesOne : Layout → Hand → Hand → CacheFault → Type 0
MissesOne layout old new told = Misses bytes_of (Spells layout) old new (BadItem old.given) told

-- a credential came; or there is none more; or none stands there
abbrev pub IsStep : Layout → Hand → Hand → Result (Option Credential) CacheFault → Type 0
IsStep layout old new (Ok (Some credential)) = (bytes : List ℕ) × Comes bytes_of (Spells layout) old new (spelled_as bytes credential)
IsStep layout old new (Ok None) = MissesOne layout old new (BadItem old.given) × (new.given ≡ old.given)
IsStep layout old new (Err fault) = MissesOne layout old new fault × (fault ≡ BadItem old.given → new.given ≢ old.given)

-- the credential of an answer is spelled at the front of the bytes at hand
abbrev pub IsAtHand : Layout → List ℕ → Result (Option Credential) CacheFault → Type 0
IsAtHand layout bytes (Ok (Some credential)) = (front : List ℕ) × Stands bytes_of (Spells layout) bytes (spelled_as front credential)
IsAtHand layout bytes _ = Unit {0}

-- what is answered where no credential came: that there is none, if no byte is there; else a fault
abbrev pub IsNone : ℕ → ℕ → CacheFault → Result Bool CacheFault → Type 0
IsNone at given told (Ok there) = (there ≡ false) × ((told ≡ BadItem at) × (given ≡ at))
IsNone at given told (Err fault) = (fault ≡ told) × (told ≡ BadItem at → given ≢ at)
