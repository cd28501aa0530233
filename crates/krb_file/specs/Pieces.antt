-- A source or a sink that moves a few bytes in each call, and fails at one call.
use Rattle.std.specs.Prelude.{ℕ, ◌-◌, List, Option, Some, None, nat_lt, if◌then◌else◌}

-- the bytes still to come, or those taken; how many move in one call at most; which of the next
-- calls, counted from 1, fails, if any; and how many have failed
pub record Pieces : Type 0 where
  pub bytes : List ℕ
  pub piece : ℕ
  pub fails_in : Option ℕ
  pub failures : ℕ

-- a sink over a slice of this size
pub record SinkPieces : Type 0 where
  pub pieces : Pieces
  pub size : ℕ

-- which of the calls after the next one fails
abbrev pub fails_next : Option ℕ → Option ℕ
fails_next None = None
fails_next (Some calls) = if nat_lt 1 calls then Some (calls - 1) else None
