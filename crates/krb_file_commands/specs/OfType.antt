-- Which entry of a keytab is picked for a principal, an encryption type, usable or not, and a version number.
use Rattle.std.specs.Prelude.{◌≡◌, ◌⊎◌, ℕ, ℤ, pos, List, Option}
use Rattle.krb_name.specs.declared.principal.Principal.{Principal}
use Rattle.krb_keytab.specs.Entry.{KeytabEntry}
use Rattle.krb_keytab.specs.Pick.{Choice, IsChoice, IsChoiceOfType}

-- a type whose keys can open a ticket: aes128-cts-hmac-sha256-128 or aes256-cts-hmac-sha384-192
abbrev pub IsUsableType : ℤ → Type 0
IsUsableType etype = (etype ≡ pos 19) ⊎ (etype ≡ pos 20)

-- if the type is usable, only usable keys count; if it isn't, all of the type do, whatever their length
abbrev pub IsChoiceFor : List KeytabEntry → Principal → ℤ → Option ℕ → Choice → Type 0
IsChoiceFor entries name etype kvno choice = (IsUsableType etype × IsChoice entries name etype kvno choice) ⊎ ((¬ IsUsableType etype) × IsChoiceOfType entries name etype kvno choice)
