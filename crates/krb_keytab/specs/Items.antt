-- Entries that are read one at a time: what a source has given so far, the entries that were read
-- from it, and where their reader is.
use Rattle.std.specs.Prelude.{◌≡◌, ◌≢◌, ◌⊎◌, ⊤, ℕ, ◌+◌, ◌<◌, ◌≤◌, ◌^◌, pos, Bool, true, false, List, [], ◌∷◌, ◌++◌, length, take, Option, Some, None, Result, Ok, Err}
use Rattle.std.specs.Int.{w32}
use Rattle.std.specs.Io.KnownBytes.{IsAtEnd}
use Rattle.krb_file.specs.Cursor.{signed_bytes}
use Rattle.krb_keytab.specs.Entry.{KeytabEntry}
use Rattle.krb_file.specs.File.{file_limit}
use Rattle.krb_keytab.specs.Format.{version, entry, entry_bytes, record_bytes, FitsRecord, IsReached, IsEnd, IsCutOff, HoldsNoEntry}
use Rattle.krb_keytab.specs.declared.fault.KeytabFault.{KeytabFault}
use Rattle.krb_keytab.specs.declared.fault.KeytabFault.TheVariants.{Version, Truncated, BadEntry, TooLong, Read, OutOfMemory}
use Rattle.krb_keytab.specs.declared.stage.Stage.{Stage}
use Rattle.krb_keytab.specs.declared.stage.Stage.TheVariants.{Start, Records, End, Failed}

-- a reader: its source, the most bytes that were held at once, how many the source has given, and
-- where it is
pub record EntriesRead (S : Type 0) : Type 0 where
  pub source : S
  pub held : ℕ
  pub given : ℕ
  pub stage : Stage

-- ---- the last answer: the end, which isn't a fault, or a fault

-- there is no record at an offset, and why
abbrev pub LacksRecord : ℕ → Option KeytabFault → List ℕ → Type 0
LacksRecord at None behind = IsEnd behind
LacksRecord at (Some (Truncated place)) behind = (place ≡ at) × IsCutOff behind
LacksRecord at (Some (BadEntry place)) behind = (place ≡ at) × HoldsNoEntry behind
LacksRecord at (Some _) behind = ⊥

-- whole records with these entries, up to an offset at which there is none
pub record Stops (bytes : List ℕ) (entries : List KeytabEntry) (last : Option KeytabFault) : Type 0 where
  pub at : ℕ
  pub behind : List ℕ
  pub reached : IsReached bytes at entries behind
  pub lacks : LacksRecord at last behind

abbrev pub LacksVersion : List ℕ → Type 0
LacksVersion bytes = (others : List ℕ) → bytes ≢ version ++ others

-- or the version isn't there, and so no entry
abbrev pub StopsSo : List ℕ → List KeytabEntry → Option KeytabFault → Type 0
StopsSo bytes entries (Some Version) = (entries ≡ []) × LacksVersion bytes
StopsSo bytes entries last = Stops bytes entries last

-- one byte past the limit has come; the entries are those of the bytes within it
pub record IsTooLong (bytes : List ℕ) (entries : List KeytabEntry) : Type 0 where
  pub long : length bytes ≡ file_limit + 1
  pub last : Option KeytabFault
  pub stops : StopsSo (take file_limit bytes) entries last

-- all bytes have come, and this is the last answer for them
pub record Concludes (left : Option (List ℕ)) (bytes : List ℕ) (entries : List KeytabEntry) (last : Option KeytabFault) : Type 0 where
  pub limit : length bytes ≤ file_limit
  pub all : IsAtEnd left
  pub stops : StopsSo bytes entries last

-- ---- where a reader is

-- the entries of the first whole records
abbrev pub AreFirst : List ℕ → List KeytabEntry → Type 0
AreFirst bytes entries = (entries ≡ []) ⊎ ((at : ℕ) × (behind : List ℕ) × IsReached bytes at entries behind)

-- the bytes end with the record of the last of the entries; as many bytes were held at once as the
-- record has after its size
pub record EndsWithEntry (held : ℕ) (bytes : List ℕ) (entries : List KeytabEntry) : Type 0 where
  pub before : List ℕ
  pub earlier : List KeytabEntry
  pub reached : IsReached before (length before) earlier []
  pub last : KeytabEntry
  pub short_kvno : ℕ
  pub rest : List ℕ
  pub fits : FitsRecord (entry last short_kvno rest)
  pub bytes_are : bytes ≡ before ++ record_bytes (entry last short_kvno rest)
  pub entries_are : entries ≡ earlier ++ last ∷ []
  pub room : length (entry_bytes last short_kvno rest) ≤ held

-- how the reader's place fits the bytes that its source still has, the most that it held, the bytes
-- that the source gave, and the entries that the reader returned
abbrev pub StandsTo : Option (List ℕ) → ℕ → Stage → List ℕ → List KeytabEntry → Type 0
StandsTo left held Start bytes entries = (bytes ≡ []) × (entries ≡ [])
StandsTo left held Records bytes entries = (length bytes ≤ file_limit) × EndsWithEntry held bytes entries
StandsTo left held End bytes entries = Concludes left bytes entries None
StandsTo left held (Failed TooLong) bytes entries = IsTooLong bytes entries
StandsTo left held (Failed Read) bytes entries = AreFirst bytes entries
StandsTo left held (Failed OutOfMemory) bytes entries = AreFirst bytes entries
StandsTo left held (Failed fault) bytes entries = Concludes left bytes entries (Some fault)

-- ---- what it holds

-- no more than the record of an entry: its size, and as many bytes as that says; of a hole the size
-- alone
abbrev pub IsPartOfRecord : List ℕ → Type 0
IsPartOfRecord part = (length part ≤ 4) ⊎ ((size : ℕ) × (size < 2 ^ 31) × (body : List ℕ) × (part ≡ signed_bytes w32 (pos size) ++ body) × (length body ≤ size))

-- there are so many bytes of the version, or of one record after whole records
pub record HasMet (bytes : List ℕ) (count : ℕ) : Type 0 where
  pub before : List ℕ
  pub part : List ℕ
  pub after : List ℕ
  pub bytes_are : bytes ≡ before ++ (part ++ after)
  pub enough : count ≤ length part
  pub one : ((before ≡ []) × (length part ≤ 2)) ⊎ (((entries : List KeytabEntry) × IsReached before (length before) entries []) × IsPartOfRecord part)

-- a reader whose source gave these bytes, and which returned these entries
pub record HasRead {S : Type 0} (left : Option (List ℕ)) (reader : EntriesRead S) (bytes : List ℕ) (entries : List KeytabEntry) : Type 0 where
  pub given : reader.given ≡ length bytes
  pub stands : StandsTo left reader.held reader.stage bytes entries
  pub held : HasMet bytes reader.held

-- ---- one more answer

-- an answer that says of an entry only that it was there
abbrev pub passed : Result (Option KeytabEntry) KeytabFault → Result Bool KeytabFault
passed (Ok (Some e)) = Ok true
passed (Ok None) = Ok false
passed (Err fault) = Err fault

abbrev pub stage_passed : Result Bool KeytabFault → Stage
stage_passed (Ok true) = Records
stage_passed (Ok false) = End
stage_passed (Err fault) = Failed fault

abbrev pub stage_after : Result (Option KeytabEntry) KeytabFault → Stage
stage_after answer = stage_passed (passed answer)

abbrev pub entries_after : List KeytabEntry → Result (Option KeytabEntry) KeytabFault → List KeytabEntry
entries_after entries (Ok (Some e)) = entries ++ e ∷ []
entries_after entries (Ok None) = entries
entries_after entries (Err fault) = entries

-- before an entry the source gave at least one byte, and no more than a file may have
abbrev pub GivesMore : Result (Option KeytabEntry) KeytabFault → ℕ → ℕ → Type 0
GivesMore (Ok (Some e)) old new = (old < new) × (new ≤ file_limit)
GivesMore (Ok None) old new = ⊤
GivesMore (Err fault) old new = ⊤

-- what is answered from now on, if that is known
abbrev pub last_answer : Stage → Option (Result (Option KeytabEntry) KeytabFault)
last_answer Start = None
last_answer Records = None
last_answer End = Some (Ok None)
last_answer (Failed fault) = Some (Err fault)
