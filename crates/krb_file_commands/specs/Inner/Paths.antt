-- The parts of a path.
use Rattle.std.specs.Prelude.{◌≡◌, ℕ, List, [], ◌∷◌, ◌++◌, Option, Some, None, IsSomeAnd, codes}
use Rattle.std.specs.Path.{path_file_name}

-- a path ends in a name, and not in `..`, `.` or a slash, which name folders
abbrev pub EndsInName : List ℕ → Type 0
EndsInName path = IsSomeAnd (path_file_name path) (λ name. (front : List ℕ) × (path ≡ front ++ name))

-- the folder of a file by its path's parent; the current one if that is empty or there is none
abbrev pub folder_by : Option (List ℕ) → List ℕ
folder_by None = codes "."
folder_by (Some []) = codes "."
folder_by (Some (byte ∷ rest)) = byte ∷ rest
