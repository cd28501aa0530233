-- What follows from the first of two steps.
use Rattle.std.proofs.Common.{◌≡◌, ℕ, List, ◌∷◌, length, Result, Ok, Err, inl, inr, sym, ap, ◌∙◌, subst, arith}
use Rattle.krb_replay.specs.Limit.{Limits}
use Rattle.krb_replay.specs.Stamp.{Stamp}
use Rattle.krb_ap.specs.Service.{HeedsLimits as HeedsLimitsAt}
use Rattle.krb_ap.specs.Setup.{Setup, Arrival, arrival}
use Rattle.krb_ap.specs.declared.accepted.Accepted.{Accepted}
use Rattle.krb_ap.specs.declared.refusal.Refusal.{Refusal}
use Rattle.krb_gss.specs.declared.negotiating.Negotiation.{Negotiation}
use Rattle.krb_login.specs.Carrying.{Carries}
use Rattle.krb_login.specs.Laws.{IsIn}
use Rattle.krb_login.specs.Limits.{HeedsLimits, of_none, of_request}
use Rattle.krb_login.specs.Login.{Call, Decides, HasCause, IsAfter, IsDecided, IsOfNone, IsOfRequest, IsUndecided, left, added, unanswered}
use Rattle.krb_login.specs.Store.{IsSettled, IsSettledFor}
use Rattle.krb_login.specs.declared.carrier.Carrier.{Carrier}
use Rattle.krb_login.specs.declared.cause.Cause.{Cause}
use Rattle.krb_login.specs.declared.cause.Cause.TheVariants.{Token, Request, Breached, OutOfMemory, StoreFailed}
use Rattle.krb_login.specs.declared.decision.Decision.{Decision}
use Rattle.krb_login.specs.declared.decision.Decision.TheVariants as decisions
use Rattle.krb_login.specs.declared.decision.Refused.{Refused}

-- nobody is in before a request is decided on
pub nobody_yet : (decision : Decision) → IsUndecided decision → IsIn decision → ⊥
nobody_yet (decisions.LetIn login) undecided is = undecided
nobody_yet (decisions.GoOn bytes) undecided is = is
nobody_yet (decisions.Refused refused) undecided is = is

-- the same request, by other names
pub carried : (negotiation : Negotiation) (bytes : List ℕ) (one other : Carrier) (request same : List ℕ) → one ≡ other → request ≡ same
    → Carries negotiation other same bytes → Carries negotiation one request bytes
carried negotiation bytes one other request same c r it =
    subst (λ (carrier : Carrier). Carries negotiation carrier request bytes) (sym c) (subst (λ (at : List ℕ). Carries negotiation other at bytes) (sym r) it)

-- an answer isn't another one
pub unlike : (one other : Refusal) → (one ≡ other → ⊥) → ◌≡◌ {A = Result Accepted Refusal} (Err one) (Err other) → ⊥
unlike one other apart e = apart cc

pub no_refusal : (accepted : Accepted) (refusal : Refusal) → ◌≡◌ {A = Result Accepted Refusal} (Ok accepted) (Err refusal) → ⊥
no_refusal accepted refusal e = absurd cc

-- memory that ran out is no cause of the request's own
pub not_its_own : (cause : Cause) → cause ≡ OutOfMemory → IsOfRequest cause → ⊥
not_its_own cause e is = subst IsOfRequest e is

-- ---- a history that stays the same
pub no_longer : (call : Arrival) (history : List Arrival) → ◌≡◌ {A = List Arrival} (call ∷ history) history → ⊥
no_longer call history e = omega (arith, ap (λ (it : List Arrival). length it) e)

of_one_kind : (cause : Cause) → IsOfNone cause → IsOfRequest cause → ⊥
of_one_kind (Token fault) none own = own
of_one_kind (Request refusal) none own = none
of_one_kind (Breached breach) none own = none
of_one_kind OutOfMemory none own = own
of_one_kind StoreFailed none own = own

-- then no request was decided on
pub undecided_if_same : (call : Call) (refused : Refused) (after : List Arrival) → IsAfter call (decisions.Refused refused) after → after ≡ call.history
    → IsOfRequest refused.cause → ⊥
undecided_if_same call refused after (left undecided e) same own = of_one_kind refused.cause undecided own
undecided_if_same call refused after (added carrier request decided holds e) same own = no_longer _ call.history (sym e ∙ same)
undecided_if_same call refused after (unanswered carrier request taken out holds accept meets due e) same own = no_longer _ call.history (sym e ∙ same)

-- ---- the limits of the memory
-- what is lacking may be said otherwise
pub heeds_at : (Has : Stamp → Type 0) (limits : List Limits) (old new : List ℕ) (setup : Setup) (history : List Arrival) (call : Arrival) (A B : Type 0)
    → (A → B) → HeedsLimitsAt Has limits old new setup history call A → HeedsLimitsAt Has limits old new setup history call B
heeds_at Has limits old new setup history call A B so h = record {
  full = λ stamp shows. so (h.full stamp shows);
  counted = elim h.counted [
    | inl same ↦ inl same
    | inr one ↦ inr (one.0, (so one.1.0, one.1.1))
  ];
}

pub heeds : (Has : Stamp → Type 0) (limits : List Limits) (old new : List ℕ) (call : Call) (A B : Type 0)
    → (A → B) → HeedsLimits Has limits old new call A → HeedsLimits Has limits old new call B
heeds Has limits old new call A B so (of_none none same) = of_none none same
heeds Has limits old new call A B so (of_request carrier request holds at uncounted) =
    of_request carrier request holds (heeds_at Has limits old new call.setup call.history (arrival request call.now) A B so at) uncounted

-- ---- a decision without the store isn't for its failure
decided_for : (call : Call) (refused : Refused) (cause : Cause) → HasCause call refused cause → IsSettledFor cause → IsOfRequest cause
decided_for call refused (Token fault) has settled = settled
decided_for call refused (Request refusal) has settled = tt
decided_for call refused (Breached breach) has settled = tt
decided_for call refused OutOfMemory has settled = settled
decided_for call refused StoreFailed has settled = has

pub decided_if_settled : (call : Call) (decision : Decision) → Decides call decision → IsSettled decision → IsDecided decision
decided_if_settled call (decisions.LetIn login) decides settled = tt
decided_if_settled call (decisions.GoOn bytes) decides settled = settled
decided_if_settled call (decisions.Refused refused) decides settled = decided_for call refused refused.cause decides settled
