-- When two entries have the same key.
use Rattle.std.specs.Prelude.{◌≡◌, List, Any}
use Rattle.krb_name.specs.Name.{SameName}
use Rattle.krb_keytab.specs.Entry.{KeytabEntry}

-- two entries have the same key: name, encryption type, version number and bytes; the timestamps
-- may differ
pub record IsSameKey (one other : KeytabEntry) : Type 0 where
  pub name : SameName one.principal other.principal
  pub etype : one.etype ≡ other.etype
  pub kvno : one.kvno ≡ other.kvno
  pub key : one.key ≡ other.key

-- one of the entries has the key of this one
abbrev pub HasKeyOf : List KeytabEntry → KeytabEntry → Type 0
HasKeyOf entries entry = Any (λ held. IsSameKey held entry) entries
