-- Reading a cache one credential at a time: what a reader has read from its source, and how it
-- ended.
use Rattle.std.specs.Prelude.{◌≡◌, ◌≢◌, ℕ, ◌+◌, ◌<◌, ◌≤◌, max, Bool, true, false, List, [], ◌∷◌, ◌++◌, length, Option, Some, None, Result, Ok, Err, IfErr, IfSome}
use Rattle.std.specs.Int.{w8}
use Rattle.std.specs.Io.KnownBytes.{Consumes, IsAtEnd}
use Rattle.krb_file.specs.Cursor.{number_bytes}
use Rattle.krb_ccache.specs.Types.{Principal, HeaderField, Credential, Layout, CacheFault, Read, OutOfMemory}
use Rattle.krb_ccache.specs.Spelling.{marked_bytes}
use Rattle.krb_ccache.specs.Value.{Cache, cache_of, FitsCredential}
use Rattle.krb_file.specs.File.{file_limit, IsGiven}
use Rattle.krb_ccache.specs.Format.{second_size, Spelled, Spells, credential_length, IsReached, IsCache, IsFaultOf}

-- a reader: its source; the layout, the header and the default principal; how many bytes the source
-- has given; how many were held at once at most; and the last answer, once it was given: the end or
-- a fault
pub record Reading (S : Type 0) : Type 0 where
  pub source : S
  pub layout : Layout
  pub header : List HeaderField
  pub default_principal : Principal
  pub given : ℕ
  pub held : ℕ
  pub ended : Option (Result (Unit {0}) CacheFault)

-- an answer that says of a credential only that it was there
abbrev pub passed : Result (Option Credential) CacheFault → Result Bool CacheFault
passed (Ok (Some credential)) = Ok true
passed (Ok None) = Ok false
passed (Err fault) = Err fault

-- the last answer that is in an answer
abbrev pub ended_passed : Result Bool CacheFault → Option (Result (Unit {0}) CacheFault)
ended_passed (Ok true) = None
ended_passed (Ok false) = Some (Ok tt)
ended_passed (Err fault) = Some (Err fault)

abbrev pub ended_by : Result (Option Credential) CacheFault → Option (Result (Unit {0}) CacheFault)
ended_by answer = ended_passed (passed answer)

-- the last answer, given again
abbrev pub last_answer : Result (Unit {0}) CacheFault → Result (Option Credential) CacheFault
last_answer (Ok _) = Ok None
last_answer (Err fault) = Err fault

-- the source gave these bytes of a file up to an offset: a start, a default principal and whole
-- credentials, of this cache
pub record HasTaken (layout : Layout) (from to : Option (List ℕ)) (at : ℕ) (cache : Cache) : Type 0 where
  pub bytes : List ℕ
  pub taken : Consumes from to bytes
  pub reached : IsReached layout bytes at cache []

-- the cache with one credential more
abbrev pub with_credential : Cache → Credential → Cache
with_credential cache credential = cache_of cache.header cache.default_principal (cache.credentials ++ credential ∷ [])

-- a reader that hasn't ended has read the bytes of this cache, from a source that had these to come
pub record HasRead {S : Type 0} (left : S → Option (List ℕ)) (from : Option (List ℕ)) (reader : Reading S) (cache : Cache) : Type 0 where
  pub going : reader.ended ≡ None
  pub taken : HasTaken reader.layout from (left reader.source) reader.given cache

-- the source gave some bytes, and at most all of them were held at once
pub record Gave {S : Type 0} (from to : Option (List ℕ)) (old new : Reading S) : Type 0 where
  pub bytes : List ℕ
  pub taken : Consumes from to bytes
  pub given : new.given ≡ old.given + length bytes
  pub grows : old.held ≤ new.held
  pub held : new.held ≤ max old.held (length bytes)

-- the source is at its end: it gave no more, and no more was held
pub record StaysAtEnd {S : Type 0} (to : Option (List ℕ)) (old new : Reading S) : Type 0 where
  pub end : IsAtEnd to
  pub given : new.given ≡ old.given
  pub held : new.held ≡ old.held

-- a beginning of what the source gave was held; it is no longer than any credential that begins
-- with it, whichever byte is its `is_skey`
pub record HeldPart (layout : Layout) (from to : Option (List ℕ)) (old new : ℕ) : Type 0 where
  pub part : List ℕ
  pub after : List ℕ
  pub given : Consumes from to (part ++ after)
  pub no_longer : (credential : Credential) (second : List ℕ) (mark : ℕ) (more others : List ℕ) → FitsCredential credential → length second ≡ second_size layout
      → part ++ more ≡ marked_bytes credential second (number_bytes w8 mark) ++ others → length part ≤ length (marked_bytes credential second (number_bytes w8 mark))
  pub held : new ≤ max old (length part)

-- the source gave the bytes of a credential, and no more in all than a file may have
pub record GaveOne (layout : Layout) (old new : ℕ) (credential : Credential) : Type 0 where
  pub given : new ≡ old + credential_length layout credential
  pub some : old < new
  pub limit : new ≤ file_limit

-- a credential was passed: its bytes were given and were held, and it comes after those read before
pub record PassedOne {S : Type 0} (left : S → Option (List ℕ)) (old new : Reading S) (credential : Credential) : Type 0 where
  pub gave : GaveOne old.layout old.given new.given credential
  pub held : new.held ≡ max old.held (credential_length old.layout credential)
  pub read : (from : Option (List ℕ)) (cache : Cache) → HasRead left from old cache → HasRead left from new (with_credential cache credential)

-- the bytes are a start, a default principal and whole credentials, of this cache; and after them
-- comes none that ends within the limit
pub record GoesTo (bytes : List ℕ) (cache : Cache) : Type 0 where
  pub layout : Layout
  pub at : ℕ
  pub behind : List ℕ
  pub reached : IsReached layout bytes at cache behind
  pub within : at ≤ file_limit
  pub missing : (one : Spelled) (others : List ℕ) → Spells layout one → at + length one.bytes ≤ file_limit → behind ≢ one.bytes ++ others

-- the header and the default principal are those of a cache, and the credentials its first ones
pub record IsFirstOf (one all : Cache) : Type 0 where
  pub header : one.header ≡ all.header
  pub default_principal : one.default_principal ≡ all.default_principal
  pub others : List Credential
  pub credentials : all.credentials ≡ one.credentials ++ others

-- ---- the answers that speak of the whole file

-- the source gave all bytes of a file, and they are this cache
abbrev pub GaveCache : Option (List ℕ) → Option (List ℕ) → Cache → Type 0
GaveCache from to cache = (bytes : List ℕ) × IsGiven from to bytes × IsCache bytes cache

-- or they have this fault, unless it is one that says nothing about bytes
abbrev pub GaveFault : Option (List ℕ) → Option (List ℕ) → CacheFault → Type 0
GaveFault from to fault = fault ≢ OutOfMemory → fault ≢ Read → (bytes : List ℕ) × IsGiven from to bytes × IsFaultOf bytes fault

-- if the call of a reader found the end, then what the reader has read is the file's cache
abbrev pub EndsFile : {S : Type 0} → (S → Option (List ℕ)) → Reading S → Reading S → Type 0 → Type 0
EndsFile left old new End = (from : Option (List ℕ)) (cache : Cache) → HasRead left from old cache → End → GaveCache from (left new.source) cache

-- if it returned a fault, then that is the file's
abbrev pub HasFileFault : {S T : Type 0} → (S → Option (List ℕ)) → Reading S → Reading S → Result T CacheFault → Type 0
HasFileFault left old new result = (from : Option (List ℕ)) (cache : Cache) → HasRead left from old cache → IfErr result (GaveFault from (left new.source))

-- and no whole credential within the limit comes next
abbrev pub StopsInFile : {S T : Type 0} → (S → Option (List ℕ)) → Reading S → Result T CacheFault → Type 0
StopsInFile left old result = (from : Option (List ℕ)) (cache : Cache) → HasRead left from old cache → IfErr result (λ fault. fault ≢ OutOfMemory → fault ≢ Read → IfSome from (λ bytes. GoesTo bytes cache))
