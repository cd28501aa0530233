-- The moment that a line of `accept` begins with, and what follows it.
use Rattle.std.specs.Prelude.{◌≡◌, ◌<◌, ℕ, ℤ, List, ◌∷◌, ◌++◌}
use Rattle.krb_time.specs.Time.{IsSeconds}
use Rattle.krb_time.specs.Moments.{micros_of}
use Rattle.krb_call_lines.specs.CallLine.{SpellsNumber, SpellsSeconds}

pub record TellsMoment (line : List ℕ) (moment : ℤ) (message : List ℕ) : Type 0 where
  pub seconds_text : List ℕ
  pub micros_text : List ℕ
  pub seconds : ℤ
  pub micros : ℕ
  pub line_is : line ≡ seconds_text ++ 32 ∷ (micros_text ++ 32 ∷ message)
  pub spells_seconds : SpellsSeconds seconds_text seconds
  pub spells_micros : SpellsNumber 6 micros_text micros
  pub years : IsSeconds seconds
  pub within_second : micros < 1_000_000
  pub moment_is : moment ≡ micros_of seconds micros
