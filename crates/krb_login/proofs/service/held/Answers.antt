use Rattle.std.proofs.Common.{ℕ, inr, refl, sym, subst}
use Rattle.krb_ap.specs.Answer.{taken_of}
use Rattle.krb_login.specs.Login.{HasCause, deciding}
use Rattle.krb_login.specs.Store.{IsHeldOf}
use Rattle.krb_login.specs.declared.cause.Cause.{Cause}
use Rattle.krb_login.proofs.service.held.Goals as goal

pub returns-in-Ok-clause-ends : goal.returns-in-Ok-clause-ends
returns-in-Ok-clause-ends c bytes = refl

pub returns-in-Ok-clause-steps : goal.returns-in-Ok-clause-steps
returns-in-Ok-clause-steps c call holds ordinary same accept meets = record {
  carrier = c.args.carrier;
  request = c.args.request.now;
  known = c.args.accepted;
  holds = holds;
  ordinary = ordinary;
  accepted = accept;
  meets = meets;
  held = subst (λ (skew : ℕ). IsHeldOf c.args.carrier c.args.request.now c.args.accepted skew c.in-Ok.asking) same c.in-Ok.ensures;
}

pub returns-in-Err-clause-ends : goal.returns-in-Err-clause-ends
returns-in-Err-clause-ends c bytes = refl

pub returns-in-Err-clause-steps : goal.returns-in-Err-clause-steps
returns-in-Err-clause-steps c call holds ordinary same accept meets = (
  subst (λ (cause : Cause). HasCause call c.out_of_memory.result cause) (sym c.out_of_memory.ensures.cause)
      (deciding c.args.carrier c.args.request.now holds ordinary, c.out_of_memory.ensures.silent),
  λ is. is,
)

pub returns-in-Err-clause-after : goal.returns-in-Err-clause-after
returns-in-Err-clause-after c call holds ordinary accept meets = inr (record {
  carrier = c.args.carrier;
  request = c.args.request.now;
  taken = taken_of c.args.accepted;
  ran_out = c.out_of_memory.ensures.cause;
  holds = holds;
  ordinary = ordinary;
  accepted = accept;
  meets = meets;
  after_is = refl;
})
