use Rattle.std.proofs.Common.{ℤ, sym, subst}
use Rattle.std.specs.Prelude.{IfSome, IfNone}
use Rattle.krb_time.specs.Time.{IsTime}
use Rattle.krb_time.proofs.ClockLaws.{time_found, none_read}
use Rattle.krb_time.proofs.seconds.Seconds.from_text.Goals as goal

pub returns-clause-found : goal.returns-clause-found
returns-clause-found c = subst (λ o. IfSome o (λ s. IsTime s c.args.text.now)) (sym c.second_of.ensures) (time_found c.args.text.now)

pub returns-clause-none : goal.returns-clause-none
returns-clause-none c = subst (λ o. IfNone o ((s : ℤ) → IsTime s c.args.text.now → ⊥)) (sym c.second_of.ensures) (none_read c.args.text.now)
