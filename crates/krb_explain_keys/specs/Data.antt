-- The types of authorization data, and dates that may be absent.
use Rattle.std.specs.Prelude.{◌≡◌, ℕ, ℤ, List, [], ◌∷◌, ◌++◌, Option, Some, None, codes}
use Rattle.std.specs.List.{flat_map}
use Rattle.std.specs.Fmt.{signed_decimal}
use Rattle.krb_der.specs.Kind.{leaf, octets, ValueOf}
use Rattle.krb_msg.specs.Module.{authorization_data, typed}
use Rattle.krb_msg.specs.Fields.{type_of}
use Rattle.krb_explain.specs.Date.{IsDateLine}

abbrev pub type_word : ValueOf (typed (leaf octets)) → List ℕ
type_word element = 32 ∷ signed_decimal (type_of element)

-- the types of the outer elements
abbrev pub types_text : Option (ValueOf authorization_data) → List ℕ
types_text None = codes " none"
types_text (Some elements) = codes " types" ++ flat_map type_word elements

-- the line of a time that may be absent
pub record IsOneDate (label : List ℕ) (seconds : ℤ) (lines : List (List ℕ)) : Type 0 where
  pub line : List ℕ
  pub line_is : IsDateLine label seconds line
  pub lines_are : lines ≡ line ∷ []

abbrev pub MayBeDated : List ℕ → Option ℤ → List (List ℕ) → Type 0
MayBeDated label None lines = lines ≡ []
MayBeDated label (Some seconds) lines = IsOneDate label seconds lines

-- a time, and after it one that may be absent
pub record AreDates (label : List ℕ) (seconds : ℤ) (other : List ℕ) (may : Option ℤ) (lines : List (List ℕ)) : Type 0 where
  pub line : List ℕ
  pub others : List (List ℕ)
  pub line_is : IsDateLine label seconds line
  pub others_are : MayBeDated other may others
  pub lines_are : lines ≡ line ∷ others
