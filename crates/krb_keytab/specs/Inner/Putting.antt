-- What it means that a text is put into bytes in place of others.
use Rattle.std.specs.Prelude.{◌≡◌, ℕ, ◌+◌, ◌≤◌, ◌%◌, ◌^◌, List, ◌++◌, length, take, drop}
use Rattle.std.specs.Int.{w32}
use Rattle.krb_file.specs.Cursor.{number_bytes}
use Rattle.krb_keytab.specs.Entry.{KeytabEntry}
use Rattle.krb_keytab.specs.Format.{entry_bytes}

-- from an offset on there stands a text, and the other bytes stay
pub record Puts (old : List ℕ) (at : ℕ) (text : List ℕ) (new : List ℕ) : Type 0 where
  pub room : at + length text ≤ length old
  pub new_is : new ≡ take at old ++ (text ++ drop (at + length text) old)

-- and the text ends at another offset
pub record PutsTo (old : List ℕ) (at : ℕ) (text : List ℕ) (new : List ℕ) (end : ℕ) : Type 0 where
  pub puts : Puts old at text new
  pub end_is : end ≡ at + length text

-- what is written of an entry after the size of its record
abbrev pub body_bytes : KeytabEntry → List ℕ
body_bytes e = entry_bytes e (e.kvno % 2 ^ 8) (number_bytes w32 e.kvno)
