-- Numbers that have names in a registry.
use Rattle.std.specs.Prelude.{ℕ, ℤ, List, [], ◌∷◌, Option, Some, None, if◌then◌else◌}
use Rattle.std.specs.Ordering.{int_eq}
use Rattle.std.specs.Str.{bytes_eq, str_eq_ignore_ascii_case}
use Rattle.krb_readable.specs.declared.named.Named.{Named}

-- a number and its name
abbrev pub row_of : Named → ℤ × List ℕ
row_of row = (row.0, row.1.now)

-- the name that the first row with this number has
abbrev pub name_in : List (ℤ × List ℕ) → ℤ → Option (List ℕ)
name_in [] number = None
name_in (row ∷ others) number = if int_eq row.0 number then Some row.1 else name_in others number

-- the number that the first row with this name has
abbrev pub number_in : List (ℤ × List ℕ) → List ℕ → Option ℤ
number_in [] name = None
number_in (row ∷ others) name = if bytes_eq row.1 name then Some row.0 else number_in others name

-- the number that the first row with this name has; the case of letters is ignored
abbrev pub number_called : List (ℤ × List ℕ) → List ℕ → Option ℤ
number_called [] name = None
number_called (row ∷ others) name = if str_eq_ignore_ascii_case row.1 name then Some row.0 else number_called others name
