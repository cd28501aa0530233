use Rattle.std.proofs.Common.{◌≡◌, ◌∙◌, ℕ, ℤ, List, ap, inl, inr, refl, subst, sym}
use Rattle.std.specs.Prelude.{Option, Some, None}
use Rattle.std.specs.Option.{option_map}
use Rattle.krb_time.specs.Moments.{micros_of}
use Rattle.krb_talk.specs.Talks.{Talk}
use Rattle.krb_c.specs.Service.{IsMomentOf}
use Rattle.krb_c.specs.Inner.{AnswersMoment, decided_on, no_room, undrawn}
use Rattle.krb_c.specs.Login.{AnswersLogin, IsUndecided, Judges, decided, nothing, progress_in, talk_of, undecided}
use Rattle.krb_c.specs.declared.accepted_state.AcceptedState.{AcceptedState}
use Rattle.krb_c.specs.declared.login_state.LoginState.{LoginState}
use Rattle.krb_c.specs.declared.login_state.Progress.TheVariants.{Nothing}
use Rattle.krb_c.specs.declared.service_state.ServiceState.{ServiceState}
use Rattle.krb_c.specs.declared.structs.Answer.{Answer}
use Rattle.krb_c.specs.declared.structs.Time.{Time}
use Rattle.krb_c.proofs.login.fevstunik_service_answer.Goals as goal

same_talk : (before : Option LoginState) → talk_of (option_map undecided before) ≡ talk_of before
same_talk None = refl
same_talk (Some state) = refl

no_progress : (before : Option LoginState) → progress_in (option_map undecided before) ≡ Nothing
no_progress None = refl
no_progress (Some state) = refl

-- A call that decides nothing leaves the login where it was.
left : (old new : Option ServiceState) (before between after : Option LoginState) (had kept : Option AcceptedState) (state next : ServiceState) (bytes : List ℕ)
    (time : Time) (random was is : List ℕ) (answer : Answer) → old ≡ Some state → new ≡ Some next → had ≡ None → between ≡ option_map undecided before
    → next ≡ state → after ≡ between → kept ≡ had → is ≡ was → IsUndecided (Some state) time random answer
    → AnswersLogin old new before after kept bytes time random was is answer
left old new before between after had kept state next bytes time random was is answer old_is new_is none cut same stays k i u =
    nothing (subst (λ (it : Option ServiceState). IsUndecided it time random answer) (sym old_is) u) (new_is ∙ (ap Some same ∙ sym old_is))
    (ap talk_of (stays ∙ cut) ∙ same_talk before) (ap progress_in (stays ∙ cut) ∙ no_progress before) (k ∙ none) i

lifted : (old new : Option ServiceState) (before between after : Option LoginState) (had kept : Option AcceptedState) (state next : ServiceState) (bytes : List ℕ)
    (time : Time) (now : ℤ) (random was is : List ℕ) (answer : Answer) → old ≡ Some state → new ≡ Some next → had ≡ None → between ≡ option_map undecided before
    → IsMomentOf time → now ≡ micros_of time.seconds time.micros → AnswersMoment state next between after had kept bytes now random was is answer
    → AnswersLogin old new before after kept bytes time random was is answer
lifted old new before between after had kept state next bytes time now random was is answer old_is new_is none cut moment at (undrawn fault same stays k i) =
    left old new before between after had kept state next bytes time random was is answer old_is new_is none cut same stays k i (inr (moment, inl fault))
lifted old new before between after had kept state next bytes time now random was is answer old_is new_is none cut moment at (no_room confounder choice drawn room same stays k i) =
    left old new before between after had kept state next bytes time random was is answer old_is new_is none cut same stays k i (inr (moment, inr ((confounder, (choice, drawn)), room)))
lifted old new before between after had kept state next bytes time now random was is answer old_is new_is none cut moment at (decided_on login held confounder choice after_is kept_is drawn decision tells) =
    decided state next login held confounder choice old_is new_is after_is kept_is moment drawn
    (subst (λ (at : ℤ). Judges state.is_shared state next (talk_of before) login held bytes at confounder choice) at
    (subst (λ (talk : Talk). Judges state.is_shared state next talk login held bytes now confounder choice) (ap talk_of cut ∙ same_talk before) decision)) tells

pub returns : goal.returns
returns c =
    lifted _ _ _ _ _ _ _ c.in-Some-take.state.value _ _ _ c.in-Some.now _ _ _ _ c.in-Some-take.ensures.taken c.put.ensures c.clear.ensures.accepted c.clear.ensures.held
    c.in-Some.ensures.0 c.in-Some.ensures.1
    (subst (λ (state : ServiceState). AnswersMoment state c.answer-answer.new.service c.clear.new.self.held.value c.answer-answer.new.self.held.value c.clear.new.self.accepted.value
    c.answer-answer.new.self.accepted.value c.args.input.now c.in-Some.now c.args.random.now c.args.out.now c.answer-answer.new.out c.answer-answer.result) c.deref_mut.ensures.value c.answer-answer.ensures)
