-- How a login goes on with a message.
use Rattle.std.proofs.Common.{◌≡◌, ◌∙◌, ℕ, ℤ, Bool, true, false, List, Option, Some, None, Vec, ap, subst, sym}
use Rattle.std.specs.Option.{MatchOption}
use Rattle.std.specs.declared.alloc.Global.{Global}
use Rattle.krb_ap.specs.declared.reply.ReplyOptions.{ReplyOptions}
use Rattle.krb_gss.specs.declared.negotiating.Negotiation.{Negotiation}
use Rattle.krb_login.specs.Waiting.{Waiting}
use Rattle.krb_login.specs.declared.decision.Decision.{Decision as LoginDecision}
use Rattle.krb_login.specs.declared.question.Step.{Step}
use Rattle.krb_login.specs.declared.question.Step.TheVariants as steps
use Rattle.krb_talk.specs.Talks.{Talk}
use Rattle.krb_talk.specs.Turns.{ConcludesAt, Takes}
use Rattle.krb_talk.specs.declared.decision.Decision.{Decision}
use Rattle.krb_talk.specs.declared.talk.Turn.{Turn}
use Rattle.krb_c.specs.Inner.{IsCopyIf}
use Rattle.krb_context.specs.declared.agreed.Options.{Options}
use Rattle.krb_gss.specs.declared.negotiating.Negotiation.TheVariants.{Ended}
use Rattle.krb_talk.specs.declared.stage.Stage.{Stage}
use Rattle.krb_talk.specs.declared.stage.Stage.TheVariants.{Login}
use Rattle.krb_c.specs.Login.{IsConcluded, IsDecided, IsHeld, IsStepped, IsTaken, Judges, StepsTo, in_order, outcome_of, over_talk}
use Rattle.krb_c.specs.declared.login_state.Progress.TheVariants.{Decided}
use Rattle.krb_c.specs.declared.accepted_state.AcceptedState.{AcceptedState}
use Rattle.krb_c.specs.declared.login_state.LoginState.{LoginState}
use Rattle.krb_c.specs.declared.service_state.ServiceState.{ServiceState}

no_copy : (message : Vec ℕ Global) → Some message ≡ None → ⊥
no_copy message e = absurd cc

-- A service that shares a store has a copy of the message, and another one doesn't.
pub judged : (is_shared : Bool) (copy : Option (Vec ℕ Global)) (old new : ServiceState) (before : Talk) (after : LoginState) (kept : AcceptedState)
    (bytes : List ℕ) (now : ℤ) (confounder : List ℕ) (choice : ReplyOptions) → IsCopyIf is_shared bytes copy
    → MatchOption copy (IsDecided old new before after kept bytes now confounder choice)
    (λ message. IsStepped old new before after kept message.items now confounder choice)
    → Judges is_shared old new before after kept bytes now confounder choice
judged false None old new before after kept bytes now confounder choice copied it = it
judged false (Some message) old new before after kept bytes now confounder choice copied it = absurd (no_copy message copied)
judged true None old new before after kept bytes now confounder choice copied it = absurd copied
judged true (Some message) old new before after kept bytes now confounder choice copied it =
    subst (λ (b : List ℕ). IsStepped old new before after kept b now confounder choice) copied it

-- what was taken and concluded with other names for the same values
pub taken : (bytes given : List ℕ) (before : Talk) (found turn : Turn) (made after : Talk) → given ≡ bytes → found ≡ turn → after ≡ made
    → Takes given before.stage found made.stage → made.options ≡ before.options → IsTaken bytes before turn after
taken bytes given before found turn made after given_is found_is after_is takes options =
    let one = subst (λ (b : List ℕ). Takes b before.stage found made.stage) given_is takes in
    let two = subst (λ (t : Turn). Takes bytes before.stage t made.stage) found_is one in
    subst (λ (t : Talk). IsTaken bytes before turn t) (sym after_is) (record { takes = two; options = options })

pub concluded : (bytes given confounder : List ℕ) (choice again : ReplyOptions) (before : Talk) (next : Negotiation) (decided : LoginDecision)
    (decision : Decision) (made after : Talk) → given ≡ bytes → again ≡ choice → after ≡ made
    → ConcludesAt before.stage given confounder again before.options next decided decision made.stage → made.options ≡ before.options
    → IsConcluded bytes confounder choice before next decided decision after
concluded bytes given confounder choice again before next decided decision made after given_is again_is after_is concludes options =
    let one = subst (λ (b : List ℕ). ConcludesAt before.stage b confounder again before.options next decided decision made.stage) given_is concludes in
    let two = subst (λ (c : ReplyOptions). ConcludesAt before.stage bytes confounder c before.options next decided decision made.stage) again_is one in
    subst (λ (t : Talk). IsConcluded bytes confounder choice before next decided decision t) (sym after_is)
    (record { concludes = two; options = options })

-- what becomes of a step that is this one
pub to_decided : (is_full : Bool) (before : Talk) (next : Negotiation) (bytes confounder : List ℕ) (choice : ReplyOptions) (step : Step)
    (decided : LoginDecision) (decision : Decision) (after : LoginState) → step ≡ steps.Decided decided
    → IsConcluded bytes confounder choice before next decided decision after.talk → after.progress ≡ Decided (outcome_of is_full decision)
    → StepsTo is_full before next bytes confounder choice step after
to_decided is_full before next bytes confounder choice step decided decision after step_is it progress =
    subst (λ (s : Step). StepsTo is_full before next bytes confounder choice s after) (sym step_is) (decision, (it, progress))

pub to_asked : (is_full : Bool) (before : Talk) (next : Negotiation) (bytes confounder : List ℕ) (choice : ReplyOptions) (step : Step)
    (waiting : Waiting) (after : LoginState) → step ≡ steps.Ask waiting → IsHeld before next bytes confounder choice waiting after
    → StepsTo is_full before next bytes confounder choice step after
to_asked is_full before next bytes confounder choice step waiting after step_is it =
    subst (λ (s : Step). StepsTo is_full before next bytes confounder choice s after) (sym step_is) it

-- a login that is over
pub over_is : (talk : Talk) → talk.stage ≡ Login Ended → talk.options ≡ in_order → talk ≡ over_talk
over_is talk stage options = ap (λ (s : Stage). record { stage = s; options = talk.options }) stage ∙ ap (λ (o : Options). record { stage = Login Ended; options = o }) options
