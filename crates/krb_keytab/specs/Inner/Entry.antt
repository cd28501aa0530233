-- What it means that bytes are those of an entry, and that strings were read from them.
use Rattle.std.specs.Prelude.{◌≡◌, ◌≢◌, ℕ, List, [], Option, Some, None}
use Rattle.std.specs.Int.{w16}
use Rattle.krb_file.specs.Cursor.{Place, data_at, times_at}
use Rattle.krb_keytab.specs.Entry.{KeytabEntry}
use Rattle.krb_keytab.specs.Format.{entry_bytes, IsEntry}

-- the bytes of a record are those of this entry
pub record HoldsEntry (body : List ℕ) (e : KeytabEntry) : Type 0 where
  pub short_kvno : ℕ
  pub rest : List ℕ
  pub body_is : body ≡ entry_bytes e short_kvno rest
  pub is_entry : IsEntry e short_kvno rest

-- they are those of no entry
abbrev pub HoldsNone : List ℕ → Type 0
HoldsNone body = (e : KeytabEntry) (short_kvno : ℕ) (rest : List ℕ) → IsEntry e short_kvno rest → body ≢ entry_bytes e short_kvno rest

-- so many components at the front of these bytes
abbrev pub components_at : ℕ → List ℕ → Option (List (List ℕ) × Place)
components_at count bytes = times_at (data_at w16) count (record { at = 0; rest = bytes })

-- something was read
abbrev pub IsRead : {X : Type 0} → Option (X × Place) → Type 0
IsRead {X} read = (x : X × Place) × (read ≡ Some x)

-- and this is the place after it
abbrev pub IsPassed : {X : Type 0} → Option (X × Place) → Place → Type 0
IsPassed {X} read place = (x : X) × (read ≡ Some (x, place))

-- the strings that were read
abbrev pub listed : Option (List (List ℕ) × Place) → List (List ℕ)
listed None = []
listed (Some read) = read.0
