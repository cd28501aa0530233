-- How edits change a keytab in place. A file is its version, its records and its end.
use Rattle.std.specs.Prelude.{◌≡◌, ◌⊎◌, ℕ, ◌+◌, ◌-◌, ◌<◌, ◌≤◌, List, [], ◌∷◌, ◌++◌, length, replicate, All, ⊤}
use Rattle.std.specs.List.{flat_map}
use Rattle.krb_keytab.specs.Entry.{KeytabEntry}
use Rattle.krb_file.specs.File.{file_limit}
use Rattle.krb_keytab.specs.Format.{version, KeytabRecord, hole, entry, entry_bytes, record_bytes, FitsRecord, entries_of, IsEnd, IsKeytab, IsFaultOf}
use Rattle.krb_keytab.specs.Written.{padded_record, written_record, record_length}
use Rattle.krb_keytab.specs.declared.fault.KeytabFault.{KeytabFault}
use Rattle.krb_keytab.specs.declared.fault.KeytabFault.TheVariants.{TooLong, OutOfMemory}

-- the bytes are a keytab of these records, and these bytes are its end
pub record IsMadeOf (bytes : List ℕ) (records : List KeytabRecord) (end : List ℕ) : Type 0 where
  pub limit : length bytes ≤ file_limit
  pub fit : All FitsRecord records
  pub bytes_are : bytes ≡ version ++ (flat_map record_bytes records ++ end)
  pub is_end : IsEnd end

-- ---- removing

-- a hole of so many zero bytes
abbrev pub zero_hole : ℕ → KeytabRecord
zero_hole count = hole (replicate count 0)

-- the record of the entry of this index, counted among the entries alone, becomes a hole of zero
-- bytes of the same size
pub record MakesHole (old : List ℕ) (index : ℕ) (new : List ℕ) : Type 0 where
  pub before : List KeytabRecord
  pub removed : KeytabEntry
  pub short_kvno : ℕ
  pub rest : List ℕ
  pub after : List KeytabRecord
  pub end : List ℕ
  pub index_is : index ≡ length (flat_map entries_of before)
  pub old_is : IsMadeOf old (before ++ entry removed short_kvno rest ∷ after) end
  pub new_is : IsMadeOf new (before ++ zero_hole (length (entry_bytes removed short_kvno rest)) ∷ after) end

-- the list has one entry less: the one of this index
pub record LosesEntry (old : List ℕ) (index : ℕ) (new : List ℕ) : Type 0 where
  pub before : List KeytabEntry
  pub removed : KeytabEntry
  pub after : List KeytabEntry
  pub index_is : index ≡ length before
  pub old_list : IsKeytab old (before ++ removed ∷ after)
  pub new_list : IsKeytab new (before ++ after)

-- the file is a keytab, and it has no entry of this index
pub record LacksEntry (bytes : List ℕ) (index : ℕ) : Type 0 where
  pub entries : List KeytabEntry
  pub list : IsKeytab bytes entries
  pub few : length entries ≤ index

-- ---- adding

-- the record isn't a hole of at least so many bytes, including its size
abbrev pub LacksRoom : ℕ → KeytabRecord → Type 0
LacksRoom size (hole ignored) = length (record_bytes (hole ignored)) < size
LacksRoom size (entry e short_kvno rest) = ⊤

-- the first hole that is long enough takes the entry and keeps its size; what is left of it is zero
pub record FillsHole (old : List ℕ) (added : KeytabEntry) (new : List ℕ) : Type 0 where
  pub before : List KeytabRecord
  pub ignored : List ℕ
  pub after : List KeytabRecord
  pub end : List ℕ
  pub first : All (LacksRoom (record_length added)) before
  pub room : record_length added ≤ length (record_bytes (hole ignored))
  pub old_is : IsMadeOf old (before ++ hole ignored ∷ after) end
  pub new_is : IsMadeOf new (before ++ padded_record added (length (record_bytes (hole ignored)) - record_length added) ∷ after) end

-- a keytab of these records, none of which has room for the entry
pub record IsFull (bytes : List ℕ) (added : KeytabEntry) (records : List KeytabRecord) : Type 0 where
  pub end : List ℕ
  pub is : IsMadeOf bytes records end
  pub no_room : All (LacksRoom (record_length added)) records

-- no hole is long enough: the entry's record replaces the end
pub record Appends (old : List ℕ) (added : KeytabEntry) (new : List ℕ) : Type 0 where
  pub records : List KeytabRecord
  pub old_is : IsFull old added records
  pub new_is : IsMadeOf new (records ++ written_record added ∷ []) []

abbrev pub AddsEntry : List ℕ → KeytabEntry → List ℕ → Type 0
AddsEntry old added new = FillsHole old added new ⊎ Appends old added new

-- the list has this entry more, and the others stay the same
pub record GainsEntry (old : List ℕ) (added : KeytabEntry) (new : List ℕ) : Type 0 where
  pub before : List KeytabEntry
  pub after : List KeytabEntry
  pub old_list : IsKeytab old (before ++ after)
  pub new_list : IsKeytab new (before ++ added ∷ after)

-- no hole is long enough, and this holds of the length that the longer file would have
pub record WouldGrow (old : List ℕ) (added : KeytabEntry) (Bound : ℕ → Type 0) : Type 0 where
  pub records : List KeytabRecord
  pub old_is : IsFull old added records
  pub bound : Bound (length version + (length (flat_map record_bytes records) + record_length added))

abbrev pub WouldPass : List ℕ → KeytabEntry → Type 0
WouldPass old added = WouldGrow old added (λ count. file_limit < count)

-- why an entry isn't added: a fault of the file; or the longer file would pass the limit; or memory
-- is lacking
abbrev pub IsRefusal : List ℕ → KeytabEntry → KeytabFault → Type 0
IsRefusal old added TooLong = IsFaultOf old TooLong ⊎ WouldPass old added
IsRefusal old added OutOfMemory = WouldGrow old added (λ count. count ≤ file_limit)
IsRefusal old added fault = IsFaultOf old fault

-- why an entry isn't added to a keytab: the longer file would pass the limit, or memory is lacking
abbrev pub IsUnadded : List ℕ → KeytabEntry → KeytabFault → Type 0
IsUnadded old added TooLong = WouldPass old added
IsUnadded old added OutOfMemory = WouldGrow old added (λ count. count ≤ file_limit)
IsUnadded old added fault = ⊥
