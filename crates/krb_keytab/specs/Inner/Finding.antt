-- What it means that the record for an edit was found.
use Rattle.std.specs.Prelude.{◌≡◌, ℕ, ◌+◌, ◌≤◌, List, ◌∷◌, ◌++◌, length, All, Option, Some, None}
use Rattle.std.specs.List.{flat_map}
use Rattle.krb_keytab.specs.Entry.{KeytabEntry}
use Rattle.krb_keytab.specs.Format.{version, KeytabRecord, hole, entry, record_bytes, entries_of}
use Rattle.krb_keytab.specs.Edit.{IsMadeOf, LacksEntry, LacksRoom}
use Rattle.krb_keytab.specs.declared.finding.EntryAt.{EntryAt}
use Rattle.krb_keytab.specs.declared.finding.Extent.{Extent}
use Rattle.krb_keytab.specs.declared.finding.HoleFor.{HoleFor}
use Rattle.krb_keytab.specs.declared.finding.Room.{Room}
use Rattle.krb_keytab.specs.declared.finding.Room.TheVariants.{Hole, End}

-- where records end
abbrev pub end_of : List KeytabRecord → ℕ
end_of records = length version + length (flat_map record_bytes records)

-- a record after others, and where it lies
pub record LiesAt (before : List KeytabRecord) (one : KeytabRecord) (place : Extent) : Type 0 where
  pub from : place.from ≡ end_of before
  pub to : place.to ≡ place.from + length (record_bytes one)

-- bytes are a keytab, and this holds of its records
pub record Divides (Holds : List KeytabRecord → Type 0) (bytes : List ℕ) : Type 0 where
  pub records : List KeytabRecord
  pub end : List ℕ
  pub is : IsMadeOf bytes records end
  pub holds : Holds records

-- the records of a keytab end at an offset, and so much was gathered of them
abbrev pub HasGathered : {G : Type 0} → (List KeytabRecord → G → Type 0) → List ℕ → ℕ → G → Type 0
HasGathered Has bytes at gathered = Divides (λ records. (at ≡ end_of records) × Has records gathered) bytes

-- ---- an entry

-- among these records it is that of the entry of this index, and lies there
pub record IsEntryAt (records : List KeytabRecord) (index : ℕ) (place : Extent) : Type 0 where
  pub before : List KeytabRecord
  pub removed : KeytabEntry
  pub short_kvno : ℕ
  pub rest : List ℕ
  pub after : List KeytabRecord
  pub records_are : records ≡ before ++ entry removed short_kvno rest ∷ after
  pub lies : LiesAt before (entry removed short_kvno rest) place
  pub index_is : index ≡ length (flat_map entries_of before)

-- how many entries there are among these records, or which of them is that of the index
abbrev pub CountsTo : List KeytabRecord → ℕ → ℕ → Option Extent → Type 0
CountsTo records index count None = (count ≡ length (flat_map entries_of records)) × (count ≤ index)
CountsTo records index count (Some place) = IsEntryAt records index place

abbrev pub KeepsEntry : EntryAt → List KeytabRecord → EntryAt → Type 0
KeepsEntry start records now = (now.index ≡ start.index) × CountsTo records start.index now.count now.found

abbrev pub HoldsIndex : List ℕ → ℕ → Extent → Type 0
HoldsIndex bytes index place = Divides (λ records. IsEntryAt records index place) bytes

abbrev pub IsFoundEntry : List ℕ → ℕ → Option Extent → Type 0
IsFoundEntry bytes index None = LacksEntry bytes index
IsFoundEntry bytes index (Some place) = HoldsIndex bytes index place

-- ---- room

-- among these records it is the first hole that has room, and lies there
pub record IsFirstHole (records : List KeytabRecord) (size : ℕ) (place : Extent) : Type 0 where
  pub before : List KeytabRecord
  pub ignored : List ℕ
  pub after : List KeytabRecord
  pub records_are : records ≡ before ++ hole ignored ∷ after
  pub lies : LiesAt before (hole ignored) place
  pub first : All (LacksRoom size) before
  pub room : size ≤ length (record_bytes (hole ignored))

abbrev pub HasHole : List KeytabRecord → ℕ → Option Extent → Type 0
HasHole records size None = All (LacksRoom size) records
HasHole records size (Some place) = IsFirstHole records size place

abbrev pub KeepsHole : HoleFor → List KeytabRecord → HoleFor → Type 0
KeepsHole start records now = (now.size ≡ start.size) × HasHole records start.size now.found

abbrev pub HasRoom : List ℕ → ℕ → Extent → Type 0
HasRoom bytes size place = Divides (λ records. IsFirstHole records size place) bytes

abbrev pub HasNone : List ℕ → ℕ → ℕ → Type 0
HasNone bytes size at = Divides (λ records. (at ≡ end_of records) × All (LacksRoom size) records) bytes

abbrev pub IsFoundRoom : List ℕ → ℕ → Room → Type 0
IsFoundRoom bytes size (Hole place) = HasRoom bytes size place
IsFoundRoom bytes size (End at) = HasNone bytes size at
