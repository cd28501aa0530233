-- Names of numbers in registries.
use Rattle.std.specs.Prelude.{ℕ, ℤ, List, ◌++◌, Option, Some, None, codes}
use Rattle.std.specs.Fmt.{signed_decimal}

-- the first name that there is of two
abbrev pub first_name : Option (List ℕ) → Option (List ℕ) → Option (List ℕ)
first_name (Some name) other = Some name
first_name None other = other

-- a number, and after it its name in parentheses if it has one
abbrev pub with_name : ℤ → Option (List ℕ) → List ℕ
with_name number None = signed_decimal number
with_name number (Some name) = signed_decimal number ++ (codes " (" ++ (name ++ codes ")"))
