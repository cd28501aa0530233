-- Whole numbers, written.
use Rattle.std.specs.Prelude.{ℕ, List, [], ◌∷◌, if◌then◌else◌}
use Rattle.krb_der.specs.Computed.Whole.{is_redundant}

-- the bytes without those in front that the number doesn't need
unfoldable pub shortest_of : List ℕ → List ℕ
shortest_of [] = []
shortest_of (a ∷ []) = a ∷ []
shortest_of (a ∷ b ∷ bytes) = if is_redundant (a ∷ b ∷ bytes) then shortest_of (b ∷ bytes) else (a ∷ b ∷ bytes)
