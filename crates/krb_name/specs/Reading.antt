-- Which texts are those of a name, and what is wrong with other texts: the first offence from the
-- left, or no realm.
use Rattle.std.specs.Prelude.{◌≡◌, ◌≢◌, ℕ, ◌<◌, ◌⊎◌, false, List, [], ◌∷◌, ◌++◌, length, map, Result, Ok, Err}
use Rattle.std.specs.List.{join_with_byte, AllByRecursion}
use Rattle.krb_file.specs.Field.{IsBytes}
use Rattle.krb_name.specs.Name.{SameName}
use Rattle.krb_name.specs.Text.{is_printable, escaped_byte, escaped, text_of}
use Rattle.krb_name.specs.declared.principal.Principal.{Principal}
use Rattle.krb_name.specs.declared.text_fault.TextFault.{TextFault}
use Rattle.krb_name.specs.declared.text_fault.TextFault.TheVariants.{BadText, NoRealm, OutOfMemory}

-- at least one component, and bytes in each
pub record AreComponents (components : List (List ℕ)) : Type 0 where
  pub some : components ≢ []
  pub bytes : AllByRecursion IsBytes components

-- the text of components, before the `@`
abbrev pub components_text : List (List ℕ) → List ℕ
components_text components = join_with_byte 0x2f (map escaped components)

-- a byte that isn't printable
pub record IsUnprintable (rest : List ℕ) : Type 0 where
  pub byte : ℕ
  pub others : List ℕ
  pub unprintable : is_printable byte ≡ false
  pub rest_is : rest ≡ byte ∷ others

-- a backslash that doesn't begin the text of a byte
pub record IsNoEscape (rest : List ℕ) : Type 0 where
  pub others : List ℕ
  pub rest_is : rest ≡ 0x5c ∷ others
  pub none : (byte : ℕ) (behind : List ℕ) → byte < 256 → rest ≢ escaped_byte byte ++ behind

-- a `/` or an `@` that isn't escaped
pub record IsSeparator (rest : List ℕ) : Type 0 where
  pub byte : ℕ
  pub others : List ℕ
  pub separates : (byte ≡ 0x2f) ⊎ (byte ≡ 0x40)
  pub rest_is : rest ≡ byte ∷ others

-- an offence at this offset: the text of components goes on with one of the first two
pub record OffendsInComponents (text : List ℕ) (at : ℕ) : Type 0 where
  pub components : List (List ℕ)
  pub rest : List ℕ
  pub are : AreComponents components
  pub text_is : text ≡ components_text components ++ rest
  pub at_is : at ≡ length (components_text components)
  pub offends : IsUnprintable rest ⊎ IsNoEscape rest

-- or after the first bare `@` the text of a realm goes on with one of the three
pub record OffendsInRealm (text : List ℕ) (at : ℕ) : Type 0 where
  pub components : List (List ℕ)
  pub realm : List ℕ
  pub rest : List ℕ
  pub are : AreComponents components
  pub realm_is : IsBytes realm
  pub text_is : text ≡ (components_text components ++ 0x40 ∷ escaped realm) ++ rest
  pub at_is : at ≡ length (components_text components ++ 0x40 ∷ escaped realm)
  pub offends : IsUnprintable rest ⊎ (IsNoEscape rest ⊎ IsSeparator rest)

abbrev pub IsOffence : List ℕ → ℕ → Type 0
IsOffence text at = OffendsInComponents text at ⊎ OffendsInRealm text at

-- components, and no bare `@` after them
pub record LacksRealm (text : List ℕ) : Type 0 where
  pub components : List (List ℕ)
  pub are : AreComponents components
  pub text_is : text ≡ components_text components

-- the text of this name, which has components
pub record IsTextOf (text : List ℕ) (principal : Principal) : Type 0 where
  pub are : AreComponents principal.components
  pub realm_is : IsBytes principal.realm
  pub text_is : text ≡ text_of principal

-- what is answered for a text; memory may run out at any
abbrev pub IsReadAs : List ℕ → Result Principal TextFault → Type 0
IsReadAs text (Ok principal) = IsTextOf text principal
IsReadAs text (Err (BadText at)) = IsOffence text at
IsReadAs text (Err NoRealm) = LacksRealm text
IsReadAs text (Err OutOfMemory) = Unit {0}

-- what is answered if the text is only checked: how many components the name has; memory doesn't run
-- out, since nothing is kept
abbrev pub IsCheckedAs : List ℕ → Result ℕ TextFault → Type 0
IsCheckedAs text (Ok count) = (principal : Principal) × IsTextOf text principal × (count ≡ length principal.components)
IsCheckedAs text (Err OutOfMemory) = ⊥
IsCheckedAs text (Err (BadText at)) = IsOffence text at
IsCheckedAs text (Err NoRealm) = LacksRealm text

-- two answers for one text are the same, if memory didn't run out
abbrev pub SameAnswer : Result Principal TextFault → Result Principal TextFault → Type 0
SameAnswer (Err OutOfMemory) other = Unit {0}
SameAnswer (Err NoRealm) (Err OutOfMemory) = Unit {0}
SameAnswer (Err (BadText at)) (Err OutOfMemory) = Unit {0}
SameAnswer (Ok one) (Err OutOfMemory) = Unit {0}
SameAnswer (Ok one) (Ok other) = SameName one other
SameAnswer (Err (BadText one)) (Err (BadText other)) = one ≡ other
SameAnswer (Err NoRealm) (Err NoRealm) = Unit {0}
SameAnswer one other = ⊥
