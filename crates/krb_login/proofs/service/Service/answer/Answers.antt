use Rattle.std.proofs.Common.{ap, refl, sym, subst}
use Rattle.krb_gss.specs.Negotiation.{IsAsking}
use Rattle.krb_gss.specs.declared.mechanism.Mechanism.{Mechanism}
use Rattle.krb_login.specs.Inner.{Holds}
use Rattle.krb_login.specs.Login.{IsOfNone, call_of, left}
use Rattle.krb_login.specs.declared.cause.Cause.{Cause}
use Rattle.krb_login.specs.declared.opening.Held.{Held}
use Rattle.krb_login.specs.Limits.{asking, faulty, of_none, of_request}
use Rattle.krb_login.proofs.Stepping.{carried}
use Rattle.krb_login.proofs.service.Service.answer.Goals as goal

pub returns-in-Ok-Nothing-clause-decided : goal.returns-in-Ok-Nothing-clause-decided
returns-in-Ok-Nothing-clause-decided g c history stands =
    let held = subst (λ (it : Held). Holds c.args.negotiation.now c.args.given.bytes.now it) c.in-Ok-Nothing.field-0-is c.in-Ok-Nothing.ensures.held in
    c.go_on.ensures.decided (call_of c.args.self.now.terms c.args.self.now.acceptor.setup history c.args.negotiation.now c.args.given) held.0
    (subst (λ (first : Mechanism). IsAsking first c.args.given.bytes.now) (sym c.in-Ok-Nothing.first-is) held.1)

pub returns-in-Err-clause-unchanged : goal.returns-in-Err-clause-unchanged
returns-in-Err-clause-unchanged g c = rw c.refused_decision.ensures (λ history stands. record {
  after = history;
  is_after = left (subst (λ (cause : Cause). IsOfNone cause) (sym c.not_opened.ensures.cause) tt) refl;
  stands = λ same. (λ stamp. (λ has. has, λ has. has), refl);
})

pub returns-in-Ok-Nothing-clause-unchanged : goal.returns-in-Ok-Nothing-clause-unchanged
returns-in-Ok-Nothing-clause-unchanged g c history stands = record {
  after = history;
  is_after = left c.go_on.ensures.leaves refl;
  stands = λ same. (λ stamp. (λ has. has, λ has. has), refl);
}

pub returns-in-Err-clause-limit : goal.returns-in-Err-clause-limit
returns-in-Err-clause-limit g c history stands = of_none (faulty c.in-Err.fault c.in-Err.ensures.faulty) refl

pub returns-in-Ok-Nothing-clause-limit : goal.returns-in-Ok-Nothing-clause-limit
returns-in-Ok-Nothing-clause-limit g c history stands =
    let held = subst (λ (it : Held). Holds c.args.negotiation.now c.args.given.bytes.now it) c.in-Ok-Nothing.field-0-is c.in-Ok-Nothing.ensures.held in
    of_none (asking _ held.0 held.1) refl

pub returns-in-Ok-Request-clause-limit : goal.returns-in-Ok-Request-clause-limit
returns-in-Ok-Request-clause-limit g c history stands =
    let held = subst (λ (it : Held). Holds c.args.negotiation.now c.args.given.bytes.now it) c.in-Ok-Request.field-0-is c.in-Ok-Request.ensures.held in
    of_request _ _
    (carried _ c.args.given.bytes.now _ _ _ _ c.in-Ok-Request.carrier-is (ap (λ r. r.now) c.in-Ok-Request.request-is) held)
    (c.decide.ensures.limit history stands) (λ cause is not. c.decide.ensures.uncounted history cause stands is not)

pub returns-in-Ok-Request-clause-forgets : goal.returns-in-Ok-Request-clause-forgets
returns-in-Ok-Request-clause-forgets g c forgets history stands decided =
    let held = subst (λ (it : Held). Holds c.args.negotiation.now c.args.given.bytes.now it) c.in-Ok-Request.field-0-is c.in-Ok-Request.ensures.held in
    c.decide.ensures.forgets forgets history stands decided c.args.negotiation.now c.args.given.bytes.now
    (carried _ c.args.given.bytes.now _ _ _ _ c.in-Ok-Request.carrier-is (ap (λ r. r.now) c.in-Ok-Request.request-is) held)

pub returns-in-Ok-Request-clause-unchanged : goal.returns-in-Ok-Request-clause-unchanged
returns-in-Ok-Request-clause-unchanged g c history stands =
    let held = subst (λ (it : Held). Holds c.args.negotiation.now c.args.given.bytes.now it) c.in-Ok-Request.field-0-is c.in-Ok-Request.ensures.held in
    c.decide.ensures.unchanged history stands c.args.negotiation.now c.args.given.bytes.now
    (carried _ c.args.given.bytes.now _ _ _ _ c.in-Ok-Request.carrier-is (ap (λ r. r.now) c.in-Ok-Request.request-is) held)
