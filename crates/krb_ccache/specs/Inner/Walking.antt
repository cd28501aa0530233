-- How far a part of a cache reaches whose bytes come piece by piece: as far as the bytes before say.
use Rattle.std.specs.Prelude.{◌≡◌, ℕ, zero, suc, ◌+◌, ◌-◌, ◌<◌, ◌≤◌, Bool, List, ◌++◌, length, drop, Option, Some, None, Result, Ok, Err, if◌then◌else◌}
use Rattle.std.specs.Int.{Width, w8, w32, from_be_bytes}
use Rattle.std.specs.Io.KnownBytes.{IsAtEnd}
use Rattle.krb_file.specs.Cursor.{Place, ◌>>=◌, bytes_at, number_at, number_bytes}
use Rattle.krb_file.specs.Window.{Keeps}
use Rattle.krb_file.specs.Hand.{Hand}
use Rattle.krb_ccache.specs.Types.{Credential, Layout}
use Rattle.krb_ccache.specs.Spelling.{marked_bytes}
use Rattle.krb_ccache.specs.Format.{second_size}
use Rattle.krb_ccache.specs.Value.{FitsCredential}
use Rattle.krb_file.specs.File.{file_limit}
use Rattle.krb_ccache.specs.declared.walking.Left.{Left}
use Rattle.krb_ccache.specs.declared.walking.TakeFault.{TakeFault}
use Rattle.krb_ccache.specs.declared.walking.TakeFault.TheVariants.{End, Long, Read, OutOfMemory}
use Rattle.krb_ccache.specs.Inner.Reading.{allowed}

-- why so many bytes can't come: the source is at its end, or they would pass the limit of a file, or
-- memory may be lacking
abbrev pub CantCome : Type 0 → TakeFault → Option (List ℕ) → ℕ → ℕ → Type 0
CantCome memory End to given count = IsAtEnd to × (0 < count)
CantCome memory Long to given count = file_limit < given + count
CantCome memory Read to given count = Unit {0}
CantCome memory OutOfMemory to given count = memory

-- ---- what is passed over

-- the place after a part; nothing, if its bytes end before
abbrev pub Pass : Type 0
Pass = Place → Option Place

-- what is read doesn't matter
abbrev pub passed_at : {X : Type 0} → (Place → Option (X × Place)) → Pass
passed_at read place = read place >>= λ x. Some x.1

-- two ways to pass over the same
abbrev pub Same : Pass → Pass → Type 0
Same p q = (place : Place) → p place ≡ q place

abbrev pub skip_at : ℕ → Pass
skip_at count = passed_at (bytes_at count)

-- one part and another after it
abbrev pub and_then : Pass → Pass → Pass
and_then one other place = one place >>= other

-- nothing more is passed over
abbrev pub pass_none : Pass
pass_none place = Some place

-- nor is this, if a test has failed
abbrev pub pass_if : Bool → Pass
pass_if passed place = if passed then Some place else None

-- a number, and what it says comes after it
abbrev pub pass_number : Width → (ℕ → Pass) → Pass
pass_number w others place = number_at w place >>= λ number. others number.0 number.1

abbrev pub pass_times : ℕ → Pass → Pass
pass_times zero one = pass_none
pass_times (suc count) one = and_then one (pass_times count one)

-- after a gap of so many bytes, others after their length
abbrev pub pass_data : ℕ → Pass
pass_data gap = and_then (skip_at gap) (pass_number w32 skip_at)

-- what is still to be passed over of the parts so far; nothing is, if a checked flag was wrong
abbrev pub left_at : Bool → Left → Pass
left_at strict left = and_then (pass_if (allowed strict left.good)) (skip_at left.skip)

-- bytes were taken; what was to be passed over from the first of them on is now what is to be from
-- there on
pub record Goes (before after : Pass) (old new : Hand) : Type 0 where
  pub piece : List ℕ
  pub keeps : Keeps old.source new.source old new piece
  pub within : new.given ≤ file_limit
  pub same : (at : ℕ) (rest : List ℕ) → before (record { at = at; rest = piece ++ rest }) ≡ after (record { at = at + length piece; rest = rest })

-- bytes were taken, but not the others that have to come before anything is passed over
pub record Stops (before : Pass) (memory : Type 0) (old new : Hand) (stop : TakeFault) : Type 0 where
  pub piece : List ℕ
  pub keeps : Keeps old.source new.source old new piece
  pub within : new.given ≤ file_limit
  pub count : ℕ
  pub some : 0 < count
  pub none : (at : ℕ) (rest : List ℕ) → length rest < count → before (record { at = at; rest = piece ++ rest }) ≡ None
  pub lacks : CantCome memory stop new.source new.given count

abbrev pub IsWalk : {T : Type 0} → Pass → (T → Pass) → Type 0 → Hand → Hand → Result T TakeFault → Type 0
IsWalk before after memory old new (Ok x) = Goes before (after x) old new
IsWalk before after memory old new (Err stop) = Stops before memory old new stop

-- a whole part was asked for
abbrev pub IsWhole : {T : Type 0} → Pass → Type 0 → Hand → Hand → Result T TakeFault → Type 0
IsWhole before memory old new result = IsWalk before (λ x. pass_none) memory old new result

-- ---- what is taken at once

-- so many bytes were taken
pub record Taken (count : ℕ) (old new : Hand) : Type 0 where
  pub piece : List ℕ
  pub keeps : Keeps old.source new.source old new piece
  pub within : new.given ≤ file_limit
  pub length_is : length piece ≡ count

-- fewer were, and the others can't be
pub record TookFewer (memory : Type 0) (count : ℕ) (old new : Hand) (stop : TakeFault) : Type 0 where
  pub piece : List ℕ
  pub keeps : Keeps old.source new.source old new piece
  pub within : new.given ≤ file_limit
  pub fewer : length piece < count
  pub lacks : CantCome memory stop new.source new.given (count - length piece)

abbrev pub IsTaken : {T : Type 0} → Type 0 → ℕ → Hand → Hand → Result T TakeFault → Type 0
IsTaken memory count old new (Ok _) = Taken count old new
IsTaken memory count old new (Err stop) = TookFewer memory count old new stop

-- the number that the last bytes at hand are, after so many others
abbrev pub last_number : Width → ℕ → List ℕ → List ℕ → ℕ
last_number w skip before now = from_be_bytes w (drop (length before + skip) now)

-- how many failed reads an answer reports
abbrev pub stop_reads : TakeFault → ℕ
stop_reads Read = 1
stop_reads _ = 0

abbrev pub stopped_reads : {T : Type 0} → Result T TakeFault → ℕ
stopped_reads (Ok _) = 0
stopped_reads (Err stop) = stop_reads stop

-- ---- what was taken of a source, in the words of a spelling

-- a thing that begins with these bytes has no more
abbrev pub Spans : {X : Type 0} → (X → List ℕ) → (X → Type 0) → List ℕ → Type 0
Spans {X} spelled InRange bytes = (x : X) (more others : List ℕ) → InRange x → bytes ++ more ≡ spelled x ++ others → length (spelled x) ≡ length bytes

-- a thing that begins with these bytes has at least so many more
abbrev pub Wants : {X : Type 0} → (X → List ℕ) → (X → Type 0) → List ℕ → ℕ → Type 0
Wants {X} spelled InRange bytes count = (x : X) (more others : List ℕ) → InRange x → bytes ++ more ≡ spelled x ++ others → length bytes + count ≤ length (spelled x)

-- the source gave as many bytes as a thing has, and they are at hand
pub record Walks {X : Type 0} (spelled : X → List ℕ) (InRange : X → Type 0) (old new : Hand) : Type 0 where
  pub piece : List ℕ
  pub keeps : Keeps old.source new.source old new piece
  pub within : new.given ≤ file_limit
  pub spans : Spans spelled InRange piece

-- the source gave no more bytes than a thing has, and the next can't come
pub record Halts {X : Type 0} (spelled : X → List ℕ) (InRange : X → Type 0) (memory : Type 0) (old new : Hand) (stop : TakeFault) : Type 0 where
  pub piece : List ℕ
  pub keeps : Keeps old.source new.source old new piece
  pub within : new.given ≤ file_limit
  pub count : ℕ
  pub wants : Wants spelled InRange piece count
  pub cant_come : CantCome memory stop new.source new.given count

-- a credential with any bytes after its encryption type and any byte for `is_skey`
pub record Marked : Type 0 where
  pub credential : Credential
  pub second : List ℕ
  pub mark : ℕ

-- with as many bytes after its encryption type as the layout has
abbrev pub FitsKeyed : Layout → Marked → Type 0
FitsKeyed layout marked = FitsCredential marked.credential × (length marked.second ≡ second_size layout)

abbrev pub whole : Marked → List ℕ
whole marked = marked_bytes marked.credential marked.second (number_bytes w8 marked.mark)
