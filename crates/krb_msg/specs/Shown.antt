-- What is shown of a printed value that may hold keys: the number of its type and how many bytes there are, and none of them.
use Rattle.std.specs.Prelude.{ℕ, ℤ, List, ◌++◌, length, codes}
use Rattle.std.specs.Fmt.{decimal, signed_decimal}

-- a word before them names the type
abbrev pub shown_as : List ℕ → ℤ → List ℕ → List ℕ
shown_as word kind bytes = word ++ (signed_decimal kind ++ (codes ", " ++ (decimal (length bytes) ++ codes " bytes)")))

abbrev pub shown_typed : ℤ → List ℕ → List ℕ
shown_typed kind bytes = shown_as (codes "Typed(type ") kind bytes

abbrev pub shown_typed_ref : ℤ → List ℕ → List ℕ
shown_typed_ref kind bytes = shown_as (codes "TypedRef(type ") kind bytes
