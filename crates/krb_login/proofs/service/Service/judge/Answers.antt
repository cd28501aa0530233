use Rattle.std.proofs.Common.{◌∷◌, List, Err, ap, refl, sym, subst}
use Rattle.krb_ap.specs.Answer.{taken_of}
use Rattle.krb_ap.specs.History.{IsShownLately}
use Rattle.krb_ap.specs.Service.{Stands}
use Rattle.krb_replay.specs.Memory.{SameStamps}
use Rattle.krb_ap.specs.Setup.{Arrival, arrival}
use Rattle.krb_ap.proofs.Afterwards.{after_named}
use Rattle.krb_ap.proofs.Truth.{is_so, is_not}
use Rattle.krb_login.specs.Login.{HasCause, call_for, deciding, added}
use Rattle.krb_login.specs.declared.cause.Cause.{Cause}
use Rattle.krb_login.proofs.Stepping.{heeds_at, no_refusal, not_its_own, unlike}
use Rattle.krb_login.proofs.service.Service.judge.Goals as goal

pub returns-then-is_memory-clause-refused : goal.returns-then-is_memory-clause-refused
returns-then-is_memory-clause-refused g c history stands negotiation bytes confounder choice carries =
    subst (λ (cause : Cause). HasCause (call_for c.args.self.now.terms c.args.self.now.acceptor.setup history negotiation bytes c.args.now confounder choice) c.out_of_memory.result cause) (sym c.out_of_memory.ensures.cause) (
      deciding c.args.carrier c.args.request.now carries (c.in-Err.ensures.memory (ap Err (is_so _ _ c.is_memory.ensures c.if-is_memory.true))),
      c.out_of_memory.ensures.silent,
    )

pub returns-in-Err-clause-refused : goal.returns-in-Err-clause-refused
returns-in-Err-clause-refused g c history stands negotiation bytes confounder choice carries =
    c.refuse.ensures.cause (call_for c.args.self.now.terms c.args.self.now.acceptor.setup history negotiation bytes c.args.now confounder choice) carries refl
    (c.in-Err.ensures.answer history stands (is_not _ _ c.is_memory.ensures c.if-is_memory.false)) c.in-Err.ensures.offset

pub returns-in-Err-clause-goes_on : goal.returns-in-Err-clause-goes_on
returns-in-Err-clause-goes_on g c history stands negotiation bytes confounder choice carries = record {
  after = (arrival c.args.request.now c.args.now) ∷ history;
  is_after = added c.args.carrier c.args.request.now c.refuse.ensures.decides carries refl;
  stands = subst (λ (h : List Arrival). Stands g.M.ReplayMemory.has g.M.ReplayMemory.newest c.accept.new.self h)
      (sym (after_named history (arrival c.args.request.now c.args.now) c.in-Err.refusal (is_not _ _ c.is_memory.ensures c.if-is_memory.false)))
      (c.in-Err.ensures.goes_on history stands);
}

pub returns-in-Some-clause-refused : goal.returns-in-Some-clause-refused
returns-in-Some-clause-refused g c history stands negotiation bytes confounder choice carries =
    c.turn_away.ensures.cause c.in-Ok.ensures.service (call_for c.args.self.now.terms c.args.self.now.acceptor.setup history negotiation bytes c.args.now confounder choice) (taken_of c.in-Ok.accepted) carries refl
    (c.in-Ok.ensures.answer history stands) c.in-Some.ensures

pub returns-in-Some-clause-goes_on : goal.returns-in-Some-clause-goes_on
returns-in-Some-clause-goes_on g c history stands negotiation bytes confounder choice carries = record {
  after = (arrival c.args.request.now c.args.now) ∷ history;
  is_after = added c.args.carrier c.args.request.now c.turn_away.ensures.decides carries refl;
  stands = c.in-Ok.ensures.goes_on history stands;
}

pub returns-then-is_memory-clause-moves : goal.returns-then-is_memory-clause-moves
returns-then-is_memory-clause-moves g c = λ judged. absurd (not_its_own _ c.out_of_memory.ensures.cause judged)

pub returns-then-is_memory-clause-forgets : goal.returns-then-is_memory-clause-forgets
returns-then-is_memory-clause-forgets g c forgets history stands judged = absurd (not_its_own _ c.out_of_memory.ensures.cause judged)

pub returns-in-Err-clause-moves : goal.returns-in-Err-clause-moves
returns-in-Err-clause-moves g c = λ judged. c.in-Err.ensures.moves (unlike _ _ (is_not _ _ c.is_memory.ensures c.if-is_memory.false))

pub returns-in-Err-clause-forgets : goal.returns-in-Err-clause-forgets
returns-in-Err-clause-forgets g c forgets history stands judged =
    subst (λ (h : List Arrival). SameStamps (IsShownLately c.args.self.now.acceptor.setup h) (g.M.ReplayMemory.has c.accept.new.self.memory))
    (sym (after_named history (arrival c.args.request.now c.args.now) c.in-Err.refusal (is_not _ _ c.is_memory.ensures c.if-is_memory.false)))
    (c.in-Err.ensures.forgets forgets history stands (unlike _ _ (is_not _ _ c.is_memory.ensures c.if-is_memory.false)))

pub returns-in-Some-clause-moves : goal.returns-in-Some-clause-moves
returns-in-Some-clause-moves g c = λ judged. c.in-Ok.ensures.moves (no_refusal _ _)

pub returns-in-Some-clause-forgets : goal.returns-in-Some-clause-forgets
returns-in-Some-clause-forgets g c forgets history stands judged = c.in-Ok.ensures.forgets forgets history stands (no_refusal _ _)

pub returns-clause-moves : goal.returns-clause-moves
returns-clause-moves g c = λ judged. c.in-Ok.ensures.moves (no_refusal _ _)

pub returns-clause-forgets : goal.returns-clause-forgets
returns-clause-forgets g c forgets history stands judged = c.in-Ok.ensures.forgets forgets history stands (no_refusal _ _)

pub returns-then-is_memory-clause-unchanged : goal.returns-then-is_memory-clause-unchanged
returns-then-is_memory-clause-unchanged g c = λ _. c.in-Err.ensures.unchanged (ap Err (is_so _ _ c.is_memory.ensures c.if-is_memory.true))

pub returns-in-Err-clause-unchanged : goal.returns-in-Err-clause-unchanged
returns-in-Err-clause-unchanged g c = λ none. absurd (none c.refuse.ensures.decides)

pub returns-in-Some-clause-unchanged : goal.returns-in-Some-clause-unchanged
returns-in-Some-clause-unchanged g c = λ none. absurd (none c.turn_away.ensures.decides)

pub returns-then-is_memory-clause-limit : goal.returns-then-is_memory-clause-limit
returns-then-is_memory-clause-limit g c = λ history stands. heeds_at _ _ _ _ _ _ _ _ _ (λ _. c.out_of_memory.ensures.cause) (c.in-Err.ensures.limit history stands)

pub returns-in-Err-clause-limit : goal.returns-in-Err-clause-limit
returns-in-Err-clause-limit g c = λ history stands.
    heeds_at _ _ _ _ _ _ _ _ _ (λ out. absurd (unlike _ _ (is_not _ _ c.is_memory.ensures c.if-is_memory.false) out)) (c.in-Err.ensures.limit history stands)

pub returns-in-Some-clause-limit : goal.returns-in-Some-clause-limit
returns-in-Some-clause-limit g c = λ history stands. heeds_at _ _ _ _ _ _ _ _ _ (λ out. absurd (no_refusal _ _ out)) (c.in-Ok.ensures.limit history stands)

pub returns-clause-limit : goal.returns-clause-limit
returns-clause-limit g c = λ history stands. heeds_at _ _ _ _ _ _ _ _ _ (λ out. absurd (no_refusal _ _ out)) (c.in-Ok.ensures.limit history stands)
