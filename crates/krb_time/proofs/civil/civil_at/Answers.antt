use Rattle.std.proofs.Common.{◌≡◌, ℕ, ◌/◌, ◌%◌, ℤ, pos, ◌+ℤ◌, sym, subst, ◌∙◌, arith}
use Rattle.std.proofs.lemmas.Int.{ints}
use Rattle.jiff_core.specs.Date.{epoch_day}
use Rattle.jiff_core.specs.DateTime.{civil_seconds}
use Rattle.jiff_core.specs.Time.{time_seconds}
use Rattle.jiff_core.specs.declared.civil.datetime.DateTime.{DateTime}
use Rattle.jiff_core.proofs.SignedLemmas.{signed_arith}
use Rattle.krb_time.specs.Time.{IsSeconds}
use Rattle.krb_time.proofs.Calendar.{year_of_seconds}
use Rattle.krb_time.proofs.civil.civil_at.Goals as goal

value_is : (t : DateTime) (n : ℕ) (s : ℤ) → pos n ≡ s +ℤ pos 377_705_116_800 → epoch_day t.date +ℤ pos 4_371_587 ≡ pos (n / 86_400) → time_seconds t.time ≡ n % 86_400 → civil_seconds t ≡ s
unfolding civil_seconds
value_is t n s from days clock = omega (arith, signed_arith)

pub returns-clause-value : goal.returns-clause-value
returns-clause-value c =
    value_is _ _ c.args.seconds (omega (arith, ints, c.get.ensures.value, c.get.ensures.range)) c.from_days_since_min.ensures c.from_second.ensures.seconds

pub returns-clause-year : goal.returns-clause-year
returns-clause-year c =
    year_of_seconds _ (subst IsSeconds (c.get.ensures.value ∙ sym (returns-clause-value c)) c.get.ensures.range)
