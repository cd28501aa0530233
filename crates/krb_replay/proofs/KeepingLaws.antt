-- A moment, made of its second and its microsecond.
use Rattle.std.proofs.Common.{◌≡◌, ℕ, ℤ, ◌<◌, Option, Some, None, sym, ◌∙◌, arith}
use Rattle.std.specs.Prelude.{SomeIff}
use Rattle.std.proofs.lemmas.Int.{ints}
use Rattle.krb_time.specs.Moments.{IsMoment, micros_of}
use Rattle.krb_time.specs.Time.{IsSeconds}

pub is_moment : (micros seconds : ℤ) (rest : ℕ) (made : Option ℤ) → micros ≡ micros_of seconds rest → rest < 1_000_000
    → SomeIff made (IsSeconds seconds × (rest < 1_000_000)) (micros_of seconds rest) → SomeIff made (IsMoment micros) micros
is_moment micros seconds rest None is small h =
    λ moment. h (record { low = omega (arith, ints, moment.low, is); high = omega (arith, ints, moment.high, is) }, small)
is_moment micros seconds rest (Some x) is small h =
    (record { low = omega (arith, ints, h.0.0.low, is); high = omega (arith, ints, h.0.0.high, is) }, h.1 ∙ sym is)
