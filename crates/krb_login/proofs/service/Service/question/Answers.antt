use Rattle.std.proofs.Common.{◌∷◌, inl, refl}
use Rattle.krb_ap.specs.Setup.{arrival}
use Rattle.krb_login.specs.Login.{added, call_for}
use Rattle.krb_login.proofs.Stepping.{heeds_at, no_longer, undecided_if_same}
use Rattle.krb_login.proofs.service.Service.question.Goals as goal

pub returns-in-Ok-clause-steps : goal.returns-in-Ok-clause-steps
returns-in-Ok-clause-steps g c history stands negotiation bytes confounder choice carries =
    c.held.ensures.steps (call_for c.args.self.now.terms c.args.self.now.acceptor.setup history negotiation bytes c.args.now confounder choice) carries
    c.in-Ok.ensures.ordinary c.skew-skew.ensures (c.in-Ok.ensures.accepted history stands) c.in-Ok.ensures.meets

pub returns-in-Ok-clause-goes_on : goal.returns-in-Ok-clause-goes_on
returns-in-Ok-clause-goes_on g c history stands negotiation bytes confounder choice carries = record {
  after = (arrival c.args.request.now c.args.now) ∷ history;
  is_after = c.held.ensures.after (call_for c.args.self.now.terms c.args.self.now.acceptor.setup history negotiation bytes c.args.now confounder choice) carries
      c.in-Ok.ensures.ordinary (c.in-Ok.ensures.accepted history stands) c.in-Ok.ensures.meets;
  stands = c.in-Ok.ensures.remembered history stands;
}

pub returns-in-Err-clause-steps : goal.returns-in-Err-clause-steps
returns-in-Err-clause-steps g c = rw c.refused_step.ensures (λ history stands negotiation bytes confounder choice carries. (c.in-Err.ensures.refused history stands negotiation bytes confounder choice carries, λ is. is))

pub returns-in-Err-clause-ends : goal.returns-in-Err-clause-ends
returns-in-Err-clause-ends g c = rw c.refused_step.ensures (λ bytes. refl)

pub returns-in-Err-clause-goes_on : goal.returns-in-Err-clause-goes_on
returns-in-Err-clause-goes_on g c = rw c.refused_step.ensures (λ history stands negotiation bytes confounder choice carries. let on = c.in-Err.ensures.goes_on history stands negotiation bytes confounder choice carries in
    record { after = on.after; is_after = inl on.is_after; stands = on.stands })

pub returns-in-Ok-clause-moves : goal.returns-in-Ok-clause-moves
returns-in-Ok-clause-moves g c = λ _. c.in-Ok.ensures.moves tt

pub returns-in-Ok-clause-forgets : goal.returns-in-Ok-clause-forgets
returns-in-Ok-clause-forgets g c forgets history stands judged negotiation bytes confounder choice carries = record {
  after = (arrival c.args.request.now c.args.now) ∷ history;
  is_after = c.held.ensures.after (call_for c.args.self.now.terms c.args.self.now.acceptor.setup history negotiation bytes c.args.now confounder choice) carries
      c.in-Ok.ensures.ordinary (c.in-Ok.ensures.accepted history stands) c.in-Ok.ensures.meets;
  stands = c.in-Ok.ensures.forgets forgets history stands tt;
}

pub returns-in-Err-clause-forgets : goal.returns-in-Err-clause-forgets
returns-in-Err-clause-forgets g c = rw c.refused_step.ensures (λ forgets history stands judged negotiation bytes confounder choice carries. record {
  after = (arrival c.args.request.now c.args.now) ∷ history;
  is_after = inl (added c.args.carrier c.args.request.now judged carries refl);
  stands = c.in-Err.ensures.forgets forgets history stands judged;
})

pub returns-in-Ok-clause-unchanged : goal.returns-in-Ok-clause-unchanged
returns-in-Ok-clause-unchanged g c history stands negotiation bytes confounder choice carries = record {
  after = (arrival c.args.request.now c.args.now) ∷ history;
  is_after = c.held.ensures.after (call_for c.args.self.now.terms c.args.self.now.acceptor.setup history negotiation bytes c.args.now confounder choice) carries
      c.in-Ok.ensures.ordinary (c.in-Ok.ensures.accepted history stands) c.in-Ok.ensures.meets;
  stands = λ same. absurd (no_longer _ history same);
}

pub returns-in-Err-clause-unchanged : goal.returns-in-Err-clause-unchanged
returns-in-Err-clause-unchanged g c = rw c.refused_step.ensures (λ history stands negotiation bytes confounder choice carries. let on = c.in-Err.ensures.goes_on history stands negotiation bytes confounder choice carries in
    record {
      after = on.after;
      is_after = inl on.is_after;
      stands = λ same. c.in-Err.ensures.unchanged (undecided_if_same (call_for c.args.self.now.terms c.args.self.now.acceptor.setup history negotiation bytes c.args.now confounder choice) c.in-Err.refused on.after on.is_after same);
    })

pub returns-in-Ok-clause-limit : goal.returns-in-Ok-clause-limit
returns-in-Ok-clause-limit g c history stands = heeds_at _ _ _ _ _ _ _ _ _ (λ none. absurd none) (c.in-Ok.ensures.limit history stands)

pub returns-in-Err-clause-limit : goal.returns-in-Err-clause-limit
returns-in-Err-clause-limit g c = rw c.refused_step.ensures (λ history stands. c.in-Err.ensures.limit history stands)
