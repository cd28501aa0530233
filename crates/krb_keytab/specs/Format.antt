-- The keytab file, version 0x0502 (MIT krb5, "Keytab file format"). Numbers are big-endian, signed
-- ones in two's complement.
use Rattle.std.specs.Prelude.{◌≡◌, ◌≢◌, ◌⊎◌, ℕ, ◌+◌, ◌<◌, ◌≤◌, ◌^◌, ◌==◌, ◌&&◌, ℤ, pos, neg_ℤ, unsigned_abs, List, [], ◌∷◌, ◌++◌, length, take, Result, Ok, Err, not, nat_le, All, FitsSigned, if◌then◌else◌}
use Rattle.std.specs.Int.{w8, w16, w32, from_be_bytes}
use Rattle.std.specs.List.{flat_map}
use Rattle.krb_file.specs.Cursor.{number_bytes, signed_bytes, data_bytes}
use Rattle.krb_file.specs.File.{file_limit}
use Rattle.krb_keytab.specs.Entry.{KeytabEntry, FitsEntry}
use Rattle.krb_keytab.specs.declared.fault.KeytabFault.{KeytabFault}
use Rattle.krb_keytab.specs.declared.fault.KeytabFault.TheVariants.{Version, Truncated, BadEntry, TooLong}

-- what a keytab begins with
abbrev pub version : List ℕ
version = 0x05 ∷ 0x02 ∷ []

-- ---- an entry

-- an entry with an 8-bit version number, and the rest of its record
abbrev pub entry_bytes : KeytabEntry → ℕ → List ℕ → List ℕ
entry_bytes entry short_kvno rest =
    number_bytes w16 (length entry.principal.components)
    ++ (data_bytes w16 entry.principal.realm
    ++ (flat_map (data_bytes w16) entry.principal.components
    ++ (signed_bytes w32 entry.principal.name_type
    ++ (number_bytes w32 entry.timestamp
    ++ (number_bytes w8 short_kvno
    ++ (signed_bytes w16 entry.etype
    ++ (data_bytes w16 entry.key
    ++ rest)))))))

-- the first four bytes of the rest if there are four and they aren't all zero, else the 8-bit
-- number
abbrev pub full_kvno : ℕ → List ℕ → ℕ
full_kvno short_kvno rest =
    if nat_le 4 (length rest) && not (from_be_bytes w32 (take 4 rest) == 0)
    then from_be_bytes w32 (take 4 rest)
    else short_kvno

-- the entry's numbers are in range, and its version number is the one that counts
pub record IsEntry (entry : KeytabEntry) (short_kvno : ℕ) (rest : List ℕ) : Type 0 where
  pub fits : FitsEntry entry
  pub short_fits : short_kvno < 2 ^ 8
  pub kvno : entry.kvno ≡ full_kvno short_kvno rest

-- ---- the file

-- a hole, whose bytes mean nothing, or an entry with its 8-bit version number and a rest
pub data KeytabRecord : Type 0 where
  hole : List ℕ → KeytabRecord
  entry : KeytabEntry → ℕ → List ℕ → KeytabRecord

-- a record begins with its size, which is negative for a hole
abbrev pub record_bytes : KeytabRecord → List ℕ
record_bytes (hole ignored) = signed_bytes w32 (neg_ℤ (pos (length ignored))) ++ ignored
record_bytes (entry e short_kvno rest) =
    signed_bytes w32 (pos (length (entry_bytes e short_kvno rest))) ++ entry_bytes e short_kvno rest

abbrev pub FitsRecord : KeytabRecord → Type 0
FitsRecord (hole ignored) = (0 < length ignored) × (length ignored ≤ 2 ^ 31)
FitsRecord (entry e short_kvno rest) = IsEntry e short_kvno rest × (length (entry_bytes e short_kvno rest) < 2 ^ 31)

abbrev pub entries_of : KeytabRecord → List KeytabEntry
entries_of (hole ignored) = []
entries_of (entry e short_kvno rest) = e ∷ []

-- up to an offset the bytes are the version and whole records, with these entries; the other bytes
-- come after it
pub record IsReached (bytes : List ℕ) (at : ℕ) (entries : List KeytabEntry) (behind : List ℕ) : Type 0 where
  pub records : List KeytabRecord
  pub fit : All FitsRecord records
  pub bytes_are : bytes ≡ version ++ (flat_map record_bytes records ++ behind)
  pub at_is : at ≡ length version + length (flat_map record_bytes records)
  pub entries_are : entries ≡ flat_map entries_of records

-- the end is nothing, or four zero bytes and anything
abbrev pub IsEnd : List ℕ → Type 0
IsEnd behind = (behind ≡ []) ⊎ ((ignored : List ℕ) × (behind ≡ 0 ∷ 0 ∷ 0 ∷ 0 ∷ ignored))

-- the bytes are a keytab with these entries, in their order
pub record IsKeytab (bytes : List ℕ) (entries : List KeytabEntry) : Type 0 where
  pub limit : length bytes ≤ file_limit
  pub at : ℕ
  pub behind : List ℕ
  pub reached : IsReached bytes at entries behind
  pub end : IsEnd behind

-- ---- faults

-- the bytes end in a record's size, or before the record is as long as its size says
pub record EndsEarly (behind : List ℕ) : Type 0 where
  pub size : ℤ
  pub body : List ℕ
  pub behind_is : behind ≡ signed_bytes w32 size ++ body
  pub size_fits : FitsSigned w32 size
  pub short : length body < unsigned_abs size

abbrev pub IsCutOff : List ℕ → Type 0
IsCutOff behind = ((0 < length behind) × (length behind < 4)) ⊎ EndsEarly behind

-- there is a record that isn't a hole, and no entry and rest fill it
pub record HoldsNoEntry (behind : List ℕ) : Type 0 where
  pub body : List ℕ
  pub others : List ℕ
  pub behind_is : behind ≡ signed_bytes w32 (pos (length body)) ++ (body ++ others)
  pub size : 0 < length body
  pub size_fits : length body < 2 ^ 31
  pub no_entry : (e : KeytabEntry) (short_kvno : ℕ) (rest : List ℕ) → IsEntry e short_kvno rest → body ≢ entry_bytes e short_kvno rest

-- the bytes are within the limit, and there is something of this kind at an offset that whole
-- records reach
pub record StandsAt (bytes : List ℕ) (at : ℕ) (IsFaulty : List ℕ → Type 0) : Type 0 where
  pub limit : length bytes ≤ file_limit
  pub entries : List KeytabEntry
  pub behind : List ℕ
  pub reached : IsReached bytes at entries behind
  pub faulty : IsFaulty behind

-- why the bytes aren't a keytab; an offset is that of a record's size
abbrev pub IsFaultOf : List ℕ → KeytabFault → Type 0
IsFaultOf bytes TooLong = file_limit < length bytes
IsFaultOf bytes Version = (length bytes ≤ file_limit) × ((others : List ℕ) → bytes ≢ version ++ others)
IsFaultOf bytes (Truncated at) = StandsAt bytes at IsCutOff
IsFaultOf bytes (BadEntry at) = StandsAt bytes at HoldsNoEntry
IsFaultOf bytes _ = ⊥

-- what the bytes are: a keytab with these entries, or not a keytab, and why
abbrev pub IsAnswerOf : List ℕ → Result (List KeytabEntry) KeytabFault → Type 0
IsAnswerOf bytes (Ok entries) = IsKeytab bytes entries
IsAnswerOf bytes (Err fault) = IsFaultOf bytes fault
