-- Why a file isn't written again.
use Rattle.std.specs.Prelude.{◌≡◌, ◌⊎◌, ◌<◌, ℕ, List, length}
use Rattle.krb_file.specs.File.{file_limit}

-- the bytes aren't such a file, for this reason; or what it would be written as is too long
abbrev pub IsUnwritten : {V F : Type 0} → (List ℕ → V → Type 0) → (List ℕ → F → Type 0) → F → (V → List ℕ) → List ℕ → F → Type 0
IsUnwritten {V} IsFile IsFaultOf too_long written given fault =
    IsFaultOf given fault ⊎ ((fault ≡ too_long) × ((value : V) × (IsFile given value × (file_limit < length (written value)))))
