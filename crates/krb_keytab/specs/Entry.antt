-- An entry of a keytab as plain values, and which entries fit into a file.
use Rattle.std.specs.Prelude.{ℕ, ◌<◌, ◌^◌, ℤ, List, ◌++◌, length, codes, All, FitsSigned}
use Rattle.std.specs.Int.{w16, w32}
use Rattle.std.specs.Fmt.{decimal, signed_decimal}
use Rattle.krb_name.specs.declared.principal.Principal.{Principal}

-- whose key it is, when it was written (seconds since 1970), the key's version number, its enctype
-- and its bytes
pub record KeytabEntry : Type 0 where
  pub principal : Principal
  pub timestamp : ℕ
  pub kvno : ℕ
  pub etype : ℤ
  pub key : List ℕ

-- the count of components and the length of each text and of the key are numbers of 16 bits
pub record LengthsFit (principal : Principal) (key : List ℕ) : Type 0 where
  pub count : length principal.components < 2 ^ 16
  pub realm : length principal.realm < 2 ^ 16
  pub components : All (λ component. length component < 2 ^ 16) principal.components
  pub key_length : length key < 2 ^ 16

-- each number is in the range of its field
pub record FitsEntry (entry : KeytabEntry) : Type 0 where
  pub lengths : LengthsFit entry.principal entry.key
  pub name_type : FitsSigned w32 entry.principal.name_type
  pub timestamp : entry.timestamp < 2 ^ 32
  pub kvno : entry.kvno < 2 ^ 32
  pub etype : FitsSigned w16 entry.etype

-- what is shown of a printed entry: version number and encryption type, and no byte of the key
abbrev pub shown : KeytabEntry → List ℕ
shown entry = codes "Entry(kvno " ++ (decimal entry.kvno ++ (codes ", etype " ++ (signed_decimal entry.etype ++ codes ")")))

-- what is shown of a printed keytab: how many entries it has
abbrev pub shown_keytab : List KeytabEntry → List ℕ
shown_keytab entries = codes "Keytab(" ++ (decimal (length entries) ++ codes " entries)")
