-- step
use Rattle.std.proofs.Common.{List, ℕ, refl, subst, sym}
use Rattle.krb_c.specs.Inner.{IsSettledAlone}
use Rattle.krb_c.specs.Login.{IsAsked, IsTaken, by_itself, by_service}
use Rattle.krb_c.specs.declared.accepted_state.AcceptedState.{AcceptedState}
use Rattle.krb_talk.specs.declared.talk.Turn.TheVariants.{Serve}
use Rattle.krb_c.proofs.login_state.LoginState.step.Goals as goal

pub returns-in-Some : goal.returns-in-Some
returns-in-Some c =
    by_service c.in-Some.negotiation c.take.new.self.talk
    (subst (λ (bytes : List ℕ). IsTaken bytes c.args.self.now.talk (Serve c.in-Some.negotiation) c.take.new.self.talk) c.as_slice.ensures.value c.in-Some.ensures)
    (subst (λ (kept : AcceptedState). IsAsked c.args.service.now c.ask.new.service c.take.new.self.talk c.ask.new.self kept c.in-Some.negotiation c.args.message.items
    c.args.given.now c.args.given.confounder.now c.args.given.choice) (sym c.clear.ensures) c.ask.ensures)

pub returns-in-None : goal.returns-in-None
returns-in-None c =
    let it = subst (λ (bytes : List ℕ). IsSettledAlone bytes c.args.self.now.talk c.take.new.self c.take.new.kept) c.as_slice.ensures.value c.in-None.ensures in
    by_itself it.decision it.taken it.is_kept refl
