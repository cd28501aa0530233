-- A login in one call: what is decided, what is kept of it, and what is answered.
use Rattle.std.specs.Prelude.{◌≡◌, ◌≢◌, ◌==◌, ◌⊎◌, ◌↔◌, ◌≤◌, ◌<◌, not, Bool, true, false, if◌then◌else◌, ℕ, ℤ, pos, List, [], ◌∷◌, ◌++◌, length, take, drop, Option, Some, None, Vec}
use Rattle.std.specs.declared.alloc.Global.{Global}
use Rattle.krb_enc.specs.Key.{IsUsable, KeyValue}
use Rattle.krb_name.specs.Text.{text_of}
use Rattle.krb_time.specs.Moments.{micros_of}
use Rattle.krb_gss.specs.declared.negotiating.Negotiation.{Negotiation}
use Rattle.krb_gss.specs.declared.negotiating.Negotiation.TheVariants.{Begun, Ended}
use Rattle.krb_replay.specs.Limit.{limits_of}
use Rattle.krb_replay.specs.Memory.{SameStamps, later_of}
use Rattle.krb_ap.specs.ErrorCodes.{krb_err_generic}
use Rattle.krb_ap.specs.History.{IsShownLately}
use Rattle.krb_ap.specs.Setup.{Arrival}
use Rattle.krb_ap.specs.declared.reply.ReplyOptions.{ReplyOptions}
use Rattle.krb_login.specs.Asked.{Asks, AsksNothing, AsksSomething}
use Rattle.krb_login.specs.Limits.{HeedsLimits}
use Rattle.krb_login.specs.Login.{Call, Decides, GoesOn, GoesTo, IsDecided as IsDecidedOn, RanOut}
use Rattle.krb_login.specs.Terms.{IsOfRealms, code_of}
use Rattle.krb_login.specs.declared.asked.Asked.{Asked as AskedFor}
use Rattle.krb_login.specs.declared.breach.Breach.{Breach}
use Rattle.krb_login.specs.declared.cause.Cause.{Cause}
use Rattle.krb_login.specs.declared.cause.Cause.TheVariants.{Token, Request, Breached, OutOfMemory, StoreFailed}
use Rattle.krb_login.specs.declared.decision.Decision.{Decision as LoginDecision}
use Rattle.krb_login.specs.Store.{IsJudgedBy, LeadsTo, RanOutBefore, Steps, StepsOn}
use Rattle.krb_login.specs.Waiting.{Waiting as Awaiting}
use Rattle.krb_login.specs.declared.question.Step.{Step}
use Rattle.krb_login.specs.declared.question.Step.TheVariants as steps
use Rattle.krb_login.specs.declared.terms.Realms.{Realms}
use Rattle.krb_login.specs.declared.terms.Realms.TheVariants.{Any, Only}
use Rattle.krb_context.specs.declared.agreed.Options.{Options}
use Rattle.krb_context.specs.declared.fault.MessageFault.TheVariants as messages
use Rattle.krb_context.specs.declared.fault.ReceiveFault.TheVariants.{NotAccepted}
use Rattle.krb_talk.specs.Talks.{Talk}
use Rattle.krb_talk.specs.Turns.{ConcludesAt, Takes}
use Rattle.krb_talk.specs.declared.checking.ListFault.{ListFault}
use Rattle.krb_talk.specs.declared.checking.ListFault.TheVariants as lists
use Rattle.krb_talk.specs.declared.decision.Decision.{Decision}
use Rattle.krb_talk.specs.declared.decision.Decision.TheVariants.{LetIn, Shown, GoOn, Refused, Unshown}
use Rattle.krb_talk.specs.declared.stage.Stage.TheVariants.{Login}
use Rattle.krb_talk.specs.declared.talk.Turn.{Turn}
use Rattle.krb_talk.specs.declared.talk.Turn.TheVariants as turns
use Rattle.krb_c.specs.Service.{IsMomentOf, Remembers, Stands, full_of, latest_of, nothing_kept}
use Rattle.krb_c.specs.Answer.{Tells, plain, refused, sized}
use Rattle.krb_c.specs.Choice.{key_value}
use Rattle.krb_c.specs.Codes.{ask_store, bad_moment, bad_random, breach_code, empty_handle, full, go_on, list_key_type, list_mic_missing, list_mic_other_key, list_mic_wrong, nothing_there, ok, out_of_memory, short_buffer, store_failed}
use Rattle.krb_c.specs.Known.{is_there, number_or_zero, span}
use Rattle.krb_c.specs.Tokens.{token_answer}
use Rattle.krb_c.specs.declared.accepted_state.AcceptedState.{AcceptedState}
use Rattle.krb_c.specs.declared.login.Login.{Login as LoginOfC}
use Rattle.krb_c.specs.declared.login_state.LoginState.{LoginState}
use Rattle.krb_c.specs.declared.login_state.Outcome.{Outcome}
use Rattle.krb_c.specs.declared.login_state.Progress.{Progress}
use Rattle.krb_c.specs.declared.login_state.Progress.TheVariants.{Nothing, Waiting, Decided}
use Rattle.krb_c.specs.declared.question.Question.{Question}
use Rattle.krb_c.specs.declared.service_state.ServiceState.{ServiceState}
use Rattle.krb_c.specs.declared.structs.Answer.{Answer}
use Rattle.krb_c.specs.declared.structs.Asked.{Asked}
use Rattle.krb_c.specs.declared.structs.Time.{Time}

-- ---- what is answered to a decision
abbrev pub breach_answer : Breach → Answer
breach_answer breach = record { code = breach_code breach; kerberos = code_of breach; at = 0; size = 0 }

-- Memory may be lacking because a limit of the service is reached.
abbrev pub cause_answer : Bool → Cause → Answer
cause_answer is_full (Token fault) = token_answer fault
cause_answer is_full (Request refusal) = refused refusal
cause_answer is_full (Breached breach) = breach_answer breach
cause_answer is_full OutOfMemory = if is_full then plain full else plain out_of_memory
cause_answer is_full StoreFailed = record { code = store_failed; kerberos = krb_err_generic; at = 0; size = 0 }

-- Why the client hasn't shown that it sent its list of mechanisms.
abbrev pub list_answer : ListFault → Answer
list_answer (lists.Token fault) = token_answer fault
list_answer lists.OtherKey = plain list_key_type
list_answer lists.Missing = plain list_mic_missing
list_answer (lists.Wrong (NotAccepted messages.OtherKey)) = plain list_mic_other_key
list_answer (lists.Wrong fault) = plain list_mic_wrong
list_answer lists.OutOfMemory = plain out_of_memory

-- the answer but for how many bytes go back, what the request asked for, and the bytes
abbrev pub outcome_of : Bool → Decision → Outcome
outcome_of is_full (LetIn login) = record { answer = plain ok; asked = None; bytes = login.answer }
outcome_of is_full (Shown login) = record { answer = plain ok; asked = None; bytes = login.answer }
outcome_of is_full (GoOn bytes) = record { answer = plain go_on; asked = None; bytes = Some bytes }
outcome_of is_full (Refused it) = record { answer = cause_answer is_full it.cause; asked = it.asked; bytes = it.answer }
outcome_of is_full (Unshown it) = record { answer = list_answer it.fault; asked = None; bytes = it.answer }

-- What is known of a client that is let in. If its list was checked, each side has sent its MIC.
abbrev pub kept_of : Decision → AcceptedState
kept_of (LetIn login) = record { accepted = Some login.accepted; has_sent = false }
kept_of (Shown login) = record { accepted = Some login.accepted; has_sent = true }
kept_of _ = nothing_kept

abbrev pub sent_if : Option (Vec ℕ Global) → List ℕ
sent_if None = []
sent_if (Some bytes) = bytes.items

abbrev pub sent : Outcome → List ℕ
sent outcome = sent_if outcome.bytes

abbrev pub with_size : Answer → ℕ → Answer
with_size answer size = record { code = answer.code; kerberos = answer.kerberos; at = answer.at; size = size }

-- The bytes that go back are at the start of the buffer, and the answer is the outcome's; or the buffer
-- is too short.
pub record HandsOutcome (outcome : Outcome) (old new : List ℕ) (answer : Answer) : Type 0 where
  pub fits : length (sent outcome) ≤ length old
      → (answer ≡ with_size outcome.answer (length (sent outcome))) × (new ≡ sent outcome ++ drop (length (sent outcome)) old)
  pub short : length old < length (sent outcome) → (answer ≡ sized short_buffer (length (sent outcome))) × (new ≡ old)

-- what was decided, if anything was
abbrev pub decided_in : Progress → Option Outcome
decided_in Nothing = None
decided_in (Waiting question) = None
decided_in (Decided outcome) = Some outcome

abbrev pub TellsOutcome : Option Outcome → List ℕ → List ℕ → Answer → Type 0
TellsOutcome None old new answer = (answer ≡ plain nothing_there) × (new ≡ old)
TellsOutcome (Some outcome) old new answer = HandsOutcome outcome old new answer

-- the decision, or that a store has to be asked: then no bytes go back
abbrev pub TellsProgress : Progress → List ℕ → List ℕ → Answer → Type 0
TellsProgress Nothing old new answer = (answer ≡ plain nothing_there) × (new ≡ old)
TellsProgress (Waiting question) old new answer = (answer ≡ plain ask_store) × (new ≡ old)
TellsProgress (Decided outcome) old new answer = HandsOutcome outcome old new answer

-- what is held and what is accepted are unchanged
abbrev pub SameLogin : LoginOfC → LoginOfC → Type 0
SameLogin old new = (new.held.value ≡ old.held.value) × (new.accepted.value ≡ old.accepted.value)

-- ---- random bytes
-- Those after the confounder are the subkey, if replies send one.
abbrev pub IsSubkey : ℕ → List ℕ → Option KeyValue → Type 0
IsSubkey etype bytes None = (etype ≡ 0) × (bytes ≡ [])
IsSubkey etype bytes (Some key) = (etype ≢ 0) × ((key ≡ key_value (pos etype) bytes) × IsUsable key)

pub record IsDrawn (etype : ℕ) (random confounder : List ℕ) (choice : ReplyOptions) : Type 0 where
  pub enough : 16 ≤ length random
  pub confounder_is : confounder ≡ take 16 random
  pub subkey : IsSubkey etype (drop 16 random) choice.subkey
  pub seq : choice.seq ≡ None

abbrev pub IsNotDrawn : ℕ → List ℕ → Answer → Type 0
IsNotDrawn etype random answer =
    ((length random < 16) ⊎ ((subkey : Option KeyValue) → ¬ IsSubkey etype (drop 16 random) subkey)) × (answer ≡ plain bad_random)

-- ---- a login as krb_talk has it
-- It takes messages in their order, and each one once.
abbrev pub in_order : Options
in_order = record { rotation = 0; is_in_order = true; refuses_repeats = true }

abbrev pub begun_talk : Talk
begun_talk = record { stage = Login Begun; options = in_order }

abbrev pub over_talk : Talk
over_talk = record { stage = Login Ended; options = in_order }

-- ---- the decision
abbrev pub call_by : ServiceState → List Arrival → Negotiation → List ℕ → ℤ → List ℕ → ReplyOptions → Call
call_by state history negotiation bytes now confounder choice = record {
  terms = state.service.terms;
  setup = state.service.acceptor.setup;
  history = history;
  negotiation = negotiation;
  bytes = bytes;
  now = now;
  confounder = confounder;
  choice = choice;
}

-- what is remembered, and the latest moment, are what they were
abbrev pub Keeps : ServiceState → ServiceState → Type 0
Keeps old new = SameStamps (Remembers old) (Remembers new) × (latest_of new ≡ latest_of old)

-- What a call leaves of a service: its history goes on, it forgets what it may, and its setup, its terms and
-- its limits stay. `call` is the call after a history, and `On` says what holds of the history after it.
pub record LeavesService (old new : ServiceState) (now : ℤ) (call : List Arrival → Call) (On : (List Arrival → Type 0) → Call → Type 0) (is_judged ran_out : Type 0) : Type 0 where
  pub goes_on : (history : List Arrival) → Stands old history → On (Stands new) (call history)
  pub moves : is_judged → latest_of new ≡ Some (later_of (latest_of old) now)
  pub forgets : (history : List Arrival) → Stands old history → is_judged
      → On (λ after. SameStamps (IsShownLately old.service.acceptor.setup after) (Remembers new)) (call history)
  pub unchanged : (history : List Arrival) → Stands old history → On (λ after. after ≡ history → Keeps old new) (call history)
  pub limit : (history : List Arrival) → Stands old history
      → HeedsLimits (Remembers old) (limits_of old.service.acceptor.memory ∷ []) (full_of old ∷ []) (full_of new ∷ []) (call history) ran_out
  pub limits : limits_of new.service.acceptor.memory ≡ limits_of old.service.acceptor.memory
  pub setup : new.service.acceptor.setup ≡ old.service.acceptor.setup
  pub terms : new.service.terms ≡ old.service.terms
  pub subkey : new.subkey_type ≡ old.subkey_type
  pub shared : new.is_shared ≡ old.is_shared
  pub refusal : new.refusal ≡ old.refusal

-- a message is taken by krb_talk's login
pub record IsTaken (bytes : List ℕ) (before : Talk) (turn : Turn) (after : Talk) : Type 0 where
  pub takes : Takes bytes before.stage turn after.stage
  pub options : after.options ≡ before.options

-- and it is concluded by what a service decided, whose negotiation is at `next` then
pub record IsConcluded (bytes confounder : List ℕ) (choice : ReplyOptions) (before : Talk) (next : Negotiation) (decided : LoginDecision)
    (decision : Decision) (after : Talk) : Type 0 where
  pub concludes : ConcludesAt before.stage bytes confounder choice before.options next decided decision after.stage
  pub options : after.options ≡ before.options

-- A decision is kept. Of a client that isn't let in nothing is kept.
pub record IsKept (is_full : Bool) (decision : Decision) (after : LoginState) (kept : AcceptedState) : Type 0 where
  pub outcome : after.progress ≡ Decided (outcome_of is_full decision)
  pub kept_is : kept ≡ kept_of decision

-- The service of krb_login decides on a message at one point of its negotiation, the login is concluded by that, and the decision is kept.
pub record IsServed (old new : ServiceState) (before : Talk) (after : LoginState) (kept : AcceptedState) (negotiation : Negotiation) (bytes : List ℕ)
    (now : ℤ) (confounder : List ℕ) (choice : ReplyOptions) : Type 0 where
  pub next : Negotiation
  pub decided : LoginDecision
  pub decision : Decision
  pub decides : (history : List Arrival) → Stands old history → Decides (call_by old history negotiation bytes now confounder choice) decided
  pub service : LeavesService old new now (λ history. call_by old history negotiation bytes now confounder choice)
      (λ Holds call. GoesOn Holds call decided) (IsDecidedOn decided) (RanOut decided)
  pub goes_to : GoesTo bytes decided next
  pub concluded : IsConcluded bytes confounder choice before next decided decision after.talk
  pub is_kept : IsKept (not (full_of new == full_of old)) decision after kept

-- A login waits for a store with all that its decision needs. It takes no message meanwhile.
pub record IsHeld (before : Talk) (next : Negotiation) (bytes confounder : List ℕ) (choice : ReplyOptions) (waiting : Awaiting) (after : LoginState) : Type 0 where
  pub question : Question
  pub progress : after.progress ≡ Waiting question
  pub asking_is : question.asking ≡ waiting
  pub confounder_is : question.confounder ≡ confounder
  pub choice_is : question.choice ≡ choice
  pub message_is : question.message.items ≡ bytes
  pub negotiation_is : question.negotiation ≡ next
  pub talk_is : question.talk ≡ before
  pub over : after.talk ≡ over_talk

-- what becomes of a step: it is decided, or the store is asked
abbrev pub StepsTo : Bool → Talk → Negotiation → List ℕ → List ℕ → ReplyOptions → Step → LoginState → Type 0
StepsTo is_full before next bytes confounder choice (steps.Decided decided) after =
    (decision : Decision) × (IsConcluded bytes confounder choice before next decided decision after.talk
    × (after.progress ≡ Decided (outcome_of is_full decision)))
StepsTo is_full before next bytes confounder choice (steps.Ask waiting) after = IsHeld before next bytes confounder choice waiting after

-- A service that shares a store of stamps lets nobody in by itself: it asks the client for its next token
-- or refuses it, or the login waits for the store. What is known of the client can't be read before.
pub record IsAsked (old new : ServiceState) (before : Talk) (after : LoginState) (kept : AcceptedState) (negotiation : Negotiation) (bytes : List ℕ)
    (now : ℤ) (confounder : List ℕ) (choice : ReplyOptions) : Type 0 where
  pub next : Negotiation
  pub step : Step
  pub steps : (history : List Arrival) → Stands old history → Steps (call_by old history negotiation bytes now confounder choice) step
  pub service : LeavesService old new now (λ history. call_by old history negotiation bytes now confounder choice)
      (λ Holds call. StepsOn Holds call step) (IsJudgedBy step) (RanOutBefore step)
  pub leads_to : LeadsTo bytes step next
  pub steps_to : StepsTo (not (full_of new == full_of old)) before next bytes confounder choice step after
  pub kept_is : kept ≡ nothing_kept

-- A message is decided without the service, which is unchanged then, or the service is to decide on it (krb_talk's `Takes`). Without it a
-- client is let in only by the last message of one whose request was accepted before, and which shows its list of mechanisms by it.
pub data AnswersMessage (Serves : Talk → Negotiation → Type 0) (old new : ServiceState) (before : Talk) (after : LoginState) (kept : AcceptedState)
    (bytes : List ℕ) : Type 0 where
  by_itself : (decision : Decision) → IsTaken bytes before (turns.Decided decision) after.talk → IsKept false decision after kept → new ≡ old
      → AnswersMessage Serves old new before after kept bytes
  by_service : (negotiation : Negotiation) (taken : Talk) → IsTaken bytes before (turns.Serve negotiation) taken → Serves taken negotiation
      → AnswersMessage Serves old new before after kept bytes

abbrev pub IsDecided : ServiceState → ServiceState → Talk → LoginState → AcceptedState → List ℕ → ℤ → List ℕ → ReplyOptions → Type 0
IsDecided old new before after kept bytes now confounder choice =
    AnswersMessage (λ taken negotiation. IsServed old new taken after kept negotiation bytes now confounder choice) old new before after kept bytes

abbrev pub IsStepped : ServiceState → ServiceState → Talk → LoginState → AcceptedState → List ℕ → ℤ → List ℕ → ReplyOptions → Type 0
IsStepped old new before after kept bytes now confounder choice =
    AnswersMessage (λ taken negotiation. IsAsked old new taken after kept negotiation bytes now confounder choice) old new before after kept bytes

abbrev pub Judges : Bool → ServiceState → ServiceState → Talk → LoginState → AcceptedState → List ℕ → ℤ → List ℕ → ReplyOptions → Type 0
Judges true old new before after kept bytes now confounder choice = IsStepped old new before after kept bytes now confounder choice
Judges false old new before after kept bytes now confounder choice = IsDecided old new before after kept bytes now confounder choice

-- ---- the call
-- how far a login is
abbrev pub talk_of : Option LoginState → Talk
talk_of None = begun_talk
talk_of (Some state) = state.talk

abbrev pub progress_in : Option LoginState → Progress
progress_in None = Nothing
progress_in (Some state) = state.progress

-- what was decided, or waited for, is no longer kept
abbrev pub undecided : LoginState → LoginState
undecided state = record { talk = state.talk; progress = Nothing }

-- nothing is decided: the first that applies
abbrev pub IsUndecided : Option ServiceState → Time → List ℕ → Answer → Type 0
IsUndecided None time random answer = ((¬ IsMomentOf time) × (answer ≡ plain bad_moment)) ⊎ (IsMomentOf time × (answer ≡ plain empty_handle))
IsUndecided (Some state) time random answer =
    ((¬ IsMomentOf time) × (answer ≡ plain bad_moment))
    ⊎ (IsMomentOf time × (IsNotDrawn state.subkey_type random answer
    ⊎ (((confounder : List ℕ) × ((choice : ReplyOptions) × IsDrawn state.subkey_type random confounder choice)) × (answer ≡ plain out_of_memory))))

-- A service that takes the bytes of a client decides, or has a store asked, and the answer says so; or it
-- decides nothing, and then it is unchanged, and so is how far the login is. Of an earlier call nothing is kept.
pub data AnswersLogin (old new : Option ServiceState) (before after : Option LoginState) (kept : Option AcceptedState) (bytes : List ℕ) (time : Time)
    (random was is : List ℕ) (answer : Answer) : Type 0 where
  nothing : IsUndecided old time random answer → new ≡ old → talk_of after ≡ talk_of before → progress_in after ≡ Nothing → kept ≡ None → is ≡ was
      → AnswersLogin old new before after kept bytes time random was is answer
  decided : (state next : ServiceState) (login : LoginState) (held : AcceptedState) (confounder : List ℕ) (choice : ReplyOptions)
      → old ≡ Some state → new ≡ Some next → after ≡ Some login → kept ≡ Some held → IsMomentOf time
      → IsDrawn state.subkey_type random confounder choice
      → Judges state.is_shared state next (talk_of before) login held bytes (micros_of time.seconds time.micros) confounder choice
      → TellsProgress login.progress was is answer
      → AnswersLogin old new before after kept bytes time random was is answer

-- ---- what a request asks for
abbrev pub asked_of : AskedFor → Asked
asked_of x = record {
  service = span [] (text_of x.service);
  etype = x.etype;
  kvno = number_or_zero x.kvno;
  service_type = x.service.name_type;
  has_kvno = is_there x.kvno;
  wants_reply = x.wants_reply;
}

-- it is returned, or memory is lacking
abbrev pub TellsAsked : AskedFor → Asked → Asked → List ℕ → List ℕ → Answer → Type 0
TellsAsked x was is old new answer = Tells (text_of x.service) (asked_of x) was is old new answer

-- of what was refused, if it is known
abbrev pub asked_if : Option Outcome → Option AskedFor
asked_if None = None
asked_if (Some outcome) = outcome.asked

abbrev pub asked_in : LoginState → Option AskedFor
asked_in state = asked_if (decided_in state.progress)

abbrev pub TellsAskedIf : Option AskedFor → Asked → Asked → List ℕ → List ℕ → Answer → Type 0
TellsAskedIf None was is old new answer = (answer ≡ plain nothing_there) × ((is ≡ was) × (new ≡ old))
TellsAskedIf (Some x) was is old new answer = TellsAsked x was is old new answer

-- of a login that a handle holds
abbrev pub ListsAsked : Option LoginState → Asked → Asked → List ℕ → List ℕ → Answer → Type 0
ListsAsked None was is old new answer = (answer ≡ plain empty_handle) × ((is ≡ was) × (new ≡ old))
ListsAsked (Some state) was is old new answer = TellsAskedIf (asked_in state) was is old new answer

-- of the bytes of a request
pub data ReadsAsked (bytes : List ℕ) (was is : Asked) (old new : List ℕ) (answer : Answer) : Type 0 where
  asks : (x : AskedFor) → Asks bytes x → TellsAsked x was is old new answer → ReadsAsked bytes was is old new answer
  asks_nothing : AsksNothing bytes → answer ≡ plain nothing_there → is ≡ was → new ≡ old → ReadsAsked bytes was is old new answer
  no_memory : AsksSomething bytes → answer ≡ plain out_of_memory → is ≡ was → new ≡ old → ReadsAsked bytes was is old new answer

-- ---- the realms whose clients are let in
abbrev pub IsListed : Realms → List ℕ → Type 0
IsListed Any realm = ⊥
IsListed (Only realms) realm = IsOfRealms (Only realms) realm

-- only the realms are others
abbrev pub with_realms : ServiceState → Realms → ServiceState
with_realms state realms = record {
  service = record {
    acceptor = state.service.acceptor;
    terms = record { anonymous = state.service.terms.anonymous; realms = realms; bindings = state.service.terms.bindings };
  };
  subkey_type = state.subkey_type;
  is_shared = state.is_shared;
  refusal = state.refusal;
}

-- A realm is added to those of the list, which begins without any; or memory is lacking, and the same
-- are let in as before.
pub data AddsRealm (realm : List ℕ) (old new : ServiceState) (answer : Answer) : Type 0 where
  added : (realms : Realms) → new ≡ with_realms old realms
      → ((other : List ℕ) → IsOfRealms realms other ↔ ((other ≡ realm) ⊎ IsListed old.service.terms.realms other))
      → answer ≡ plain ok → AddsRealm realm old new answer
  unadded : (realms : Realms) → new ≡ with_realms old realms
      → ((other : List ℕ) → IsOfRealms realms other ↔ IsOfRealms old.service.terms.realms other)
      → answer ≡ plain out_of_memory → AddsRealm realm old new answer
