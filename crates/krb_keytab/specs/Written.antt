-- What is written of a keytab (MIT krb5, "Keytab file format"): each version number in 8 bits (its
-- lowest), and in 32 bits.
use Rattle.std.specs.Prelude.{ℕ, ◌%◌, ◌^◌, List, ◌++◌, length, replicate}
use Rattle.std.specs.Int.{w32}
use Rattle.std.specs.List.{flat_map}
use Rattle.krb_file.specs.Cursor.{number_bytes}
use Rattle.krb_keytab.specs.Entry.{KeytabEntry}
use Rattle.krb_keytab.specs.Format.{version, KeytabRecord, entry, record_bytes}

-- the record of an entry, and so many zero bytes after it
abbrev pub padded_record : KeytabEntry → ℕ → KeytabRecord
padded_record e zeros = entry e (e.kvno % 2 ^ 8) (number_bytes w32 e.kvno ++ replicate zeros 0)

-- the record of exactly the entry's length
abbrev pub written_record : KeytabEntry → KeytabRecord
written_record e = entry e (e.kvno % 2 ^ 8) (number_bytes w32 e.kvno)

-- how many bytes that record has, including its size
abbrev pub record_length : KeytabEntry → ℕ
record_length e = length (record_bytes (written_record e))

-- a file of these entries, without holes and without an end word
abbrev pub written : List KeytabEntry → List ℕ
written entries = version ++ flat_map (λ e. record_bytes (written_record e)) entries
