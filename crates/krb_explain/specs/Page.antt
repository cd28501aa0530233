-- A page: its lines, each with the byte 10 after it. A line is a list of bytes.
use Rattle.std.specs.Prelude.{ℕ, List, [], ◌∷◌, ◌++◌}
use Rattle.std.specs.List.{flat_map}

abbrev pub ended : List ℕ → List ℕ
ended line = line ++ 10 ∷ []

abbrev pub page_of : List (List ℕ) → List ℕ
page_of lines = flat_map ended lines
