-- A place in a message: the offset of a byte, and the bytes from it to the end of the enclosing
-- element.
use Rattle.std.specs.Prelude.{ℕ, ◌+◌, List, [], ◌∷◌, length, Bool, false, ◌==◌}

pub record Place : Type 0 where
  pub at : ℕ
  pub rest : List ℕ

-- the start of a message
abbrev pub begin_at : List ℕ → Place
begin_at bytes = record { at = 0; rest = bytes }

-- the offset of the end of the enclosing element
abbrev pub end_of : Place → ℕ
end_of p = p.at + length p.rest

-- whether the next byte is this one
abbrev pub begins : ℕ → List ℕ → Bool
begins tag [] = false
begins tag (b ∷ bytes) = b == tag
