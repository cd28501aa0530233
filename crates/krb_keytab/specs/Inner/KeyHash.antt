-- A hash of an entry's key, for looking it up.
use Rattle.std.specs.Prelude.{ℕ, ◌%◌, ◌^◌}
use Rattle.std.specs.List.{fold}
use Rattle.std.specs.Hash as fed
use Rattle.std.specs.Hash.FoldHasher.{initial, write, finish}
use Rattle.krb_name.specs.Name.{name_hash}
use Rattle.krb_keytab.specs.Entry.{KeytabEntry}

-- the low 32 bits of that of the name's hash, the encryption type, the version number and the bytes, by std's FoldHasher
unfoldable pub key_hash : KeytabEntry → ℕ
key_hash entry =
    let named = fold write initial (fed.u32 (name_hash entry.principal)) in
    finish (write (fold write (fold write named (fed.i16 entry.etype)) (fed.u32 entry.kvno)) entry.key) % 2 ^ 32
