-- Moments, as microseconds since 1970-01-01T00:00:00Z.
use Rattle.std.specs.Prelude.{ℕ, ℤ, pos, neg_ℤ, ◌+ℤ◌, ◌*ℤ◌, ◌≤ℤ◌}

-- those of a second and of the microseconds after it
abbrev pub micros_of : ℤ → ℕ → ℤ
micros_of seconds micros = pos 1_000_000 *ℤ seconds +ℤ pos micros

-- from 0000-01-01T00:00:00Z to the last microsecond of the year 9999
pub record IsMoment (z : ℤ) : Type 0 where
  pub low : neg_ℤ (pos 62_167_219_200_000_000) ≤ℤ z
  pub high : z ≤ℤ pos 253_402_300_799_999_999
