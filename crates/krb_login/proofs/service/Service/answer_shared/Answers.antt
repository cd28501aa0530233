use Rattle.std.proofs.Common.{refl}
use Rattle.krb_login.specs.Login.{call_of}
use Rattle.krb_login.specs.Store.{by_itself, by_the_store}
use Rattle.krb_login.proofs.Stepping.{decided_if_settled, heeds}
use Rattle.krb_login.proofs.service.Service.answer_shared.Goals as goal

pub returns-in-Decided-clause-answered : goal.returns-in-Decided-clause-answered
returns-in-Decided-clause-answered g c history stands =
    by_itself (c.in-Decided.ensures.steps history stands c.args.given.confounder.now c.args.given.choice) c.in-Decided.ensures.negotiation
    (c.in-Decided.ensures.goes_on history stands c.args.given.confounder.now c.args.given.choice) refl

pub returns-in-Ask-clause-answered : goal.returns-in-Ask-clause-answered
returns-in-Ask-clause-answered g c history stands =
    by_the_store c.in-Ask.asking (c.in-Ask.ensures.steps history stands c.args.given.confounder.now c.args.given.choice) c.in-Ask.ensures.negotiation
    (c.in-Ask.ensures.goes_on history stands c.args.given.confounder.now c.args.given.choice) c.settle_by.ensures

pub returns-in-Decided-clause-moves : goal.returns-in-Decided-clause-moves
returns-in-Decided-clause-moves g c history stands settled =
    let steps = c.in-Decided.ensures.steps history stands c.args.given.confounder.now c.args.given.choice in
    c.in-Decided.ensures.moves (decided_if_settled (call_of c.args.self.now.terms c.args.self.now.acceptor.setup history c.args.negotiation.now c.args.given) c.in-Decided.decision steps.0 settled)

pub returns-in-Ask-clause-moves : goal.returns-in-Ask-clause-moves
returns-in-Ask-clause-moves g c history stands settled = c.in-Ask.ensures.moves tt

pub returns-in-Decided-clause-forgets : goal.returns-in-Decided-clause-forgets
returns-in-Decided-clause-forgets g c forgets history stands settled =
    let steps = c.in-Decided.ensures.steps history stands c.args.given.confounder.now c.args.given.choice in
    by_itself steps c.in-Decided.ensures.negotiation (c.in-Decided.ensures.forgets forgets history stands c.args.given.confounder.now c.args.given.choice
    (decided_if_settled (call_of c.args.self.now.terms c.args.self.now.acceptor.setup history c.args.negotiation.now c.args.given) c.in-Decided.decision steps.0 settled)) refl

pub returns-in-Ask-clause-forgets : goal.returns-in-Ask-clause-forgets
returns-in-Ask-clause-forgets g c forgets history stands settled =
    by_the_store c.in-Ask.asking (c.in-Ask.ensures.steps history stands c.args.given.confounder.now c.args.given.choice) c.in-Ask.ensures.negotiation
    (c.in-Ask.ensures.forgets forgets history stands c.args.given.confounder.now c.args.given.choice tt) c.settle_by.ensures

pub returns-in-Decided-clause-unchanged : goal.returns-in-Decided-clause-unchanged
returns-in-Decided-clause-unchanged g c history stands =
    by_itself (c.in-Decided.ensures.steps history stands c.args.given.confounder.now c.args.given.choice) c.in-Decided.ensures.negotiation
    (c.in-Decided.ensures.unchanged history stands c.args.given.confounder.now c.args.given.choice) refl

pub returns-in-Ask-clause-unchanged : goal.returns-in-Ask-clause-unchanged
returns-in-Ask-clause-unchanged g c history stands =
    by_the_store c.in-Ask.asking (c.in-Ask.ensures.steps history stands c.args.given.confounder.now c.args.given.choice) c.in-Ask.ensures.negotiation
    (c.in-Ask.ensures.unchanged history stands c.args.given.confounder.now c.args.given.choice) c.settle_by.ensures

pub returns-in-Decided-clause-limit : goal.returns-in-Decided-clause-limit
returns-in-Decided-clause-limit g c history stands = c.in-Decided.ensures.limit history stands c.args.given.confounder.now c.args.given.choice

pub returns-in-Ask-clause-limit : goal.returns-in-Ask-clause-limit
returns-in-Ask-clause-limit g c history stands =
    heeds _ _ _ _ _ _ _ (λ none. absurd none) (c.in-Ask.ensures.limit history stands c.args.given.confounder.now c.args.given.choice)
