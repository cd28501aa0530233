-- A login with a store of stamps that several services share: what a service asks, and what it decides by what the store says.
use Rattle.std.specs.Prelude.{◌≡◌, ◌⊎◌, ◌≤ℤ◌, ◌+ℤ◌, ℕ, ℤ, pos, List, ◌∷◌}
use Rattle.std.specs.Option.{MatchOption}
use Rattle.krb_ap.specs.Answer.{taken_of}
use Rattle.krb_ap.specs.Opened.{IsOrdinary}
use Rattle.krb_ap.specs.Setup.{Arrival, arrival}
use Rattle.krb_ap.specs.Taken.{Accept, Taken, taken_stamp}
use Rattle.krb_ap.specs.declared.accepted.Accepted.{Accepted}
use Rattle.krb_ap.specs.declared.refusal.Refusal.{Refusal}
use Rattle.krb_ap.specs.declared.refusal.Refusal.TheVariants as refusals
use Rattle.krb_ap.specs.declared.reply.ReplyOptions.{ReplyOptions}
use Rattle.krb_gss.specs.declared.negotiating.Negotiation.{Negotiation}
use Rattle.krb_gss.specs.declared.negotiating.Negotiation.TheVariants.{Ended}
use Rattle.krb_replay.specs.Bytes.{IsBytesOf}
use Rattle.krb_replay.specs.Keeping.{kept_until}
use Rattle.krb_time.specs.Moments.{IsMoment}
use Rattle.krb_login.specs.Asked.{Asks, AsksNothing}
use Rattle.krb_login.specs.Laws.{IsIn}
use Rattle.krb_login.specs.Login.{Call, Decides, GoesTo, HoldsRequest, IsAfter, IsAnswerDue, IsAnswered, IsDecided, IsRefusedSo, RanOut, SaysNothing}
use Rattle.krb_login.specs.Terms.{Meets}
use Rattle.krb_login.specs.Waiting.{Waiting}
use Rattle.krb_login.specs.declared.carrier.Carrier.{Carrier}
use Rattle.krb_login.specs.declared.cause.Cause.{Cause}
use Rattle.krb_login.specs.declared.cause.Cause.TheVariants as causes
use Rattle.krb_login.specs.declared.decision.Decision.{Decision}
use Rattle.krb_login.specs.declared.decision.Decision.TheVariants as decisions
use Rattle.krb_login.specs.declared.decision.LetIn.{LetIn}
use Rattle.krb_login.specs.declared.decision.Refused.{Refused}
use Rattle.krb_login.specs.declared.question.Step.{Step}
use Rattle.krb_login.specs.declared.question.Step.TheVariants.{Decided, Ask}
use Rattle.krb_login.specs.declared.store.StoreSays.{StoreSays}
use Rattle.krb_login.specs.declared.store.StoreSays.TheVariants.{New, Known, Failed}

-- ---- before the store is asked

-- what is held says what the request asks for
abbrev pub AsksFor : Waiting → List ℕ → Type 0
AsksFor waiting request = MatchOption waiting.asked (AsksNothing request) (Asks request)

-- it is that of an accepted request in a carrier, with the request's own stamp
pub record IsHeldOf (carrier : Carrier) (request : List ℕ) (accepted : Accepted) (skew : ℕ) (waiting : Waiting) : Type 0 where
  pub accepted_is : waiting.accepted ≡ accepted
  pub carrier_is : waiting.carrier ≡ carrier
  pub asks : AsksFor waiting request
  pub stamp_is : waiting.stamp ≡ taken_stamp (taken_of accepted)
  pub skew_is : waiting.skew ≡ skew

-- The bytes hold a request that is accepted and meets the terms, and this is held of it.
pub record IsWaiting (call : Call) (waiting : Waiting) : Type 0 where
  pub carrier : Carrier
  pub request : List ℕ
  pub known : Accepted
  pub holds : HoldsRequest call carrier request
  pub ordinary : IsOrdinary request
  pub accepted : Accept call.setup call.history (arrival request call.now) (taken_of known)
  pub meets : Meets call.terms (taken_of known)
  pub held : IsHeldOf carrier request known call.setup.skew waiting

-- The service asks for the stamp of such a request, and decides all else by itself. It lets nobody in before.
abbrev pub Steps : Call → Step → Type 0
Steps call (Decided decision) = Decides call decision × (IsIn decision → ⊥)
Steps call (Ask waiting) = IsWaiting call waiting

-- ---- after the store has spoken

-- By the service's clock, the request could still be accepted.
abbrev pub IsInTime : Waiting → ℤ → Type 0
IsInTime waiting now = now ≤ℤ (waiting.stamp.time +ℤ pos waiting.skew)

-- The client is let in, and answered, unless memory runs out.
abbrev pub SettlesNew : Waiting → List ℕ → ReplyOptions → Decision → Type 0
SettlesNew waiting confounder choice (decisions.LetIn login) =
    (login.accepted ≡ waiting.accepted) × IsAnswered waiting.carrier (taken_of waiting.accepted) confounder choice login.answer
SettlesNew waiting confounder choice (decisions.GoOn bytes) = ⊥
SettlesNew waiting confounder choice (decisions.Refused refused) =
    (refused.cause ≡ causes.OutOfMemory) × (SaysNothing refused × IsAnswerDue waiting.carrier (taken_of waiting.accepted))

-- The client is refused for a cause. What its request asks for is said, and what goes back is the error of this refusal, as for any
-- other request.
pub record IsRefusedFor (waiting : Waiting) (now : ℤ) (cause : Cause) (refusal : Refusal) (refused : Refused) : Type 0 where
  pub cause_is : refused.cause ≡ cause
  pub asked_is : refused.asked ≡ waiting.asked
  pub so : (request : List ℕ) → AsksFor waiting request → IsRefusedSo now waiting.carrier request refusal refused

abbrev pub Refuses : Waiting → ℤ → Cause → Refusal → Decision → Type 0
Refuses waiting now cause refusal (decisions.Refused refused) = IsRefusedFor waiting now cause refusal refused
Refuses waiting now cause refusal _ = ⊥

-- A stamp that is new lets its client in, unless it is too late by then. The error of a store that failed has the code of
-- `Authorization`, KRB_ERR_GENERIC.
pub data Settles (waiting : Waiting) (said : StoreSays) (now : ℤ) (confounder : List ℕ) (choice : ReplyOptions) (decision : Decision) : Type 0 where
  is_new : said ≡ New → IsInTime waiting now → SettlesNew waiting confounder choice decision → Settles waiting said now confounder choice decision
  is_late : said ≡ New → (IsInTime waiting now → ⊥) → Refuses waiting now (causes.Request refusals.Skew) refusals.Skew decision
      → Settles waiting said now confounder choice decision
  is_known : said ≡ Known → Refuses waiting now (causes.Request refusals.Repeat) refusals.Repeat decision → Settles waiting said now confounder choice decision
  has_failed : said ≡ Failed → Refuses waiting now causes.StoreFailed refusals.Authorization decision → Settles waiting said now confounder choice decision

-- ---- the service after the first step

abbrev pub LeadsTo : List ℕ → Step → Negotiation → Type 0
LeadsTo bytes (Decided decision) new = GoesTo bytes decision new
LeadsTo bytes (Ask waiting) new = new ≡ Ended

-- Memory ran out before the store was asked, for a request that is remembered.
pub record IsUnasked (call : Call) (decision : Decision) (after : List Arrival) : Type 0 where
  pub carrier : Carrier
  pub request : List ℕ
  pub taken : Taken
  pub ran_out : RanOut decision
  pub holds : HoldsRequest call carrier request
  pub ordinary : IsOrdinary request
  pub accepted : Accept call.setup call.history (arrival request call.now) taken
  pub meets : Meets call.terms taken
  pub after_is : after ≡ arrival request call.now ∷ call.history

-- A request that the store is asked for is remembered, whatever the store says.
pub record IsAsked (call : Call) (waiting : Waiting) (after : List Arrival) : Type 0 where
  pub request : List ℕ
  pub holds : HoldsRequest call waiting.carrier request
  pub after_is : after ≡ arrival request call.now ∷ call.history

abbrev pub IsAfterStep : Call → Step → List Arrival → Type 0
IsAfterStep call (Decided decision) after = IsAfter call decision after ⊎ IsUnasked call decision after
IsAfterStep call (Ask waiting) after = IsAsked call waiting after

-- a request was accepted, or refused for a cause of its own
abbrev pub IsJudgedBy : Step → Type 0
IsJudgedBy (Decided decision) = IsDecided decision
IsJudgedBy (Ask waiting) = Unit {0}

-- memory ran out in the first step
abbrev pub RanOutBefore : Step → Type 0
RanOutBefore (Decided decision) = RanOut decision
RanOutBefore (Ask waiting) = ⊥

pub record StepsOn (Stands : List Arrival → Type 0) (call : Call) (step : Step) : Type 0 where
  pub after : List Arrival
  pub is_after : IsAfterStep call step after
  pub stands : Stands after

-- ---- all steps in their order

-- The store can be asked: there is a moment up to which the stamp is kept, since it isn't after the year 9999.
abbrev pub IsAskable : Waiting → Type 0
IsAskable waiting = IsMoment (kept_until waiting.stamp waiting.skew)

-- The store is asked for the bytes of the stamp, until that moment. A store that can't be asked counts as failed.
pub data SaysOf {S : Type 0} (adds : S → List ℕ → ℤ → StoreSays → S → Type 0) (waiting : Waiting) (old : S) (said : StoreSays) (new : S) : Type 0 where
  added : (bytes : List ℕ) → IsBytesOf waiting.stamp bytes → IsAskable waiting → adds old bytes (kept_until waiting.stamp waiting.skew) said new
      → SaysOf adds waiting old said new
  unaskable : (IsAskable waiting → ⊥) → said ≡ Failed → new ≡ old → SaysOf adds waiting old said new

-- The store is asked, the clock is looked at after that, and this is decided then. Or memory ran out before, for the bytes of the stamp.
pub data SettlesBy {S : Type 0} (adds : S → List ℕ → ℤ → StoreSays → S → Type 0) (shows : S → ℤ → S → Type 0) (waiting : Waiting) (old : S)
    (confounder : List ℕ) (choice : ReplyOptions) (decision : Decision) (new : S) : Type 0 where
  asked : (said : StoreSays) (after : S) (looked : ℤ) → SaysOf adds waiting old said after
      → shows after looked new → Settles waiting said looked confounder choice decision → SettlesBy adds shows waiting old confounder choice decision new
  unasked : (refused : Refused) → IsAskable waiting → decision ≡ decisions.Refused refused → refused.cause ≡ causes.OutOfMemory → SaysNothing refused → new ≡ old
      → SettlesBy adds shows waiting old confounder choice decision new

-- The service decides by itself, and lets nobody in, or the store is asked.
pub data AnswersShared {S : Type 0} (adds : S → List ℕ → ℤ → StoreSays → S → Type 0) (shows : S → ℤ → S → Type 0) (call : Call) (old : S)
    (Stands : List Arrival → Type 0) (negotiation : Negotiation) (decision : Decision) (new : S) : Type 0 where
  by_itself : Steps call (Decided decision) → LeadsTo call.bytes (Decided decision) negotiation → StepsOn Stands call (Decided decision) → new ≡ old
      → AnswersShared adds shows call old Stands negotiation decision new
  by_the_store : (waiting : Waiting) → Steps call (Ask waiting) → LeadsTo call.bytes (Ask waiting) negotiation → StepsOn Stands call (Ask waiting)
      → SettlesBy adds shows waiting old call.confounder call.choice decision new → AnswersShared adds shows call old Stands negotiation decision new

-- A request was accepted, or refused for a cause of its own, or the store failed after that.
abbrev pub IsSettledFor : Cause → Type 0
IsSettledFor (causes.Request refusal) = Unit {0}
IsSettledFor (causes.Breached breach) = Unit {0}
IsSettledFor causes.StoreFailed = Unit {0}
IsSettledFor _ = ⊥

abbrev pub IsSettled : Decision → Type 0
IsSettled (decisions.LetIn login) = Unit {0}
IsSettled (decisions.GoOn bytes) = ⊥
IsSettled (decisions.Refused refused) = IsSettledFor refused.cause
