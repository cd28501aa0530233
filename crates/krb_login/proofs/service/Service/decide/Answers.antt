use Rattle.std.proofs.Common.{◌∷◌, refl}
use Rattle.krb_ap.specs.Setup.{arrival}
use Rattle.krb_login.specs.Login.{added, call_with}
use Rattle.krb_login.proofs.Stepping.{heeds_at, no_longer, undecided_if_same}
use Rattle.krb_login.proofs.service.Service.decide.Goals as goal

pub returns-in-Ok-clause-decided : goal.returns-in-Ok-clause-decided
returns-in-Ok-clause-decided g c history stands negotiation bytes carries =
    c.let_in.ensures.decided (call_with c.args.self.now.terms c.args.self.now.acceptor.setup history negotiation bytes c.args.given) c.args.request.now carries
    c.in-Ok.ensures.ordinary (c.in-Ok.ensures.accepted history stands) c.in-Ok.ensures.meets refl refl

pub returns-in-Ok-clause-goes_on : goal.returns-in-Ok-clause-goes_on
returns-in-Ok-clause-goes_on g c history stands negotiation bytes carries = record {
  after = (arrival c.args.request.now c.args.given.now) ∷ history;
  is_after = c.let_in.ensures.after (call_with c.args.self.now.terms c.args.self.now.acceptor.setup history negotiation bytes c.args.given) c.args.request.now carries
      (c.in-Ok.ensures.accepted history stands) c.in-Ok.ensures.meets;
  stands = c.in-Ok.ensures.remembered history stands;
}

pub returns-in-Err-clause-decided : goal.returns-in-Err-clause-decided
returns-in-Err-clause-decided g c = rw c.refused_decision.ensures (λ history stands negotiation bytes carries. c.in-Err.ensures.refused history stands negotiation bytes c.args.given.confounder.now c.args.given.choice carries)

pub returns-in-Ok-clause-moves : goal.returns-in-Ok-clause-moves
returns-in-Ok-clause-moves g c = λ _. c.in-Ok.ensures.moves tt

pub returns-in-Ok-clause-forgets : goal.returns-in-Ok-clause-forgets
returns-in-Ok-clause-forgets g c forgets history stands decided negotiation bytes carries = record {
  after = (arrival c.args.request.now c.args.given.now) ∷ history;
  is_after = c.let_in.ensures.after (call_with c.args.self.now.terms c.args.self.now.acceptor.setup history negotiation bytes c.args.given) c.args.request.now carries
      (c.in-Ok.ensures.accepted history stands) c.in-Ok.ensures.meets;
  stands = c.in-Ok.ensures.forgets forgets history stands tt;
}

pub returns-in-Err-clause-forgets : goal.returns-in-Err-clause-forgets
returns-in-Err-clause-forgets g c = rw c.refused_decision.ensures (λ forgets history stands decided negotiation bytes carries. record {
  after = (arrival c.args.request.now c.args.given.now) ∷ history;
  is_after = added c.args.carrier c.args.request.now decided carries refl;
  stands = c.in-Err.ensures.forgets forgets history stands decided;
})

pub returns-in-Ok-clause-unchanged : goal.returns-in-Ok-clause-unchanged
returns-in-Ok-clause-unchanged g c history stands negotiation bytes carries = record {
  after = (arrival c.args.request.now c.args.given.now) ∷ history;
  is_after = c.let_in.ensures.after (call_with c.args.self.now.terms c.args.self.now.acceptor.setup history negotiation bytes c.args.given) c.args.request.now carries
      (c.in-Ok.ensures.accepted history stands) c.in-Ok.ensures.meets;
  stands = λ same. absurd (no_longer _ history same);
}

pub returns-in-Err-clause-unchanged : goal.returns-in-Err-clause-unchanged
returns-in-Err-clause-unchanged g c = rw c.refused_decision.ensures (λ history stands negotiation bytes carries. let on = c.in-Err.ensures.goes_on history stands negotiation bytes c.args.given.confounder.now c.args.given.choice carries in
    record {
      after = on.after;
      is_after = on.is_after;
      stands = λ same. c.in-Err.ensures.unchanged (undecided_if_same (call_with c.args.self.now.terms c.args.self.now.acceptor.setup history negotiation bytes c.args.given) c.in-Err.refused on.after on.is_after same);
    })

pub returns-in-Ok-clause-limit : goal.returns-in-Ok-clause-limit
returns-in-Ok-clause-limit g c history stands = heeds_at _ _ _ _ _ _ _ _ _ (λ none. absurd none) (c.in-Ok.ensures.limit history stands)

pub returns-in-Err-clause-limit : goal.returns-in-Err-clause-limit
returns-in-Err-clause-limit g c = rw c.refused_decision.ensures (λ history stands. c.in-Err.ensures.limit history stands)
