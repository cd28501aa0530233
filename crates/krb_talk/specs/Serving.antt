-- What a service does with the bytes of a client at one point of its negotiation: all that krb_login's `Service::answer` promises.
use Rattle.std.specs.Prelude.{◌≡◌, ℕ, ℤ, List, Bool, IsTrue, Option, Some}
use Rattle.krb_ap.specs.History.{IsShownLately}
use Rattle.krb_ap.specs.Service.{SameMemory, Service, Stands}
use Rattle.krb_ap.specs.Setup.{Arrival}
use Rattle.krb_gss.specs.declared.negotiating.Negotiation.{Negotiation}
use Rattle.krb_login.specs.Limits.{HeedsLimits}
use Rattle.krb_login.specs.Login.{Decides, GoesOn, GoesTo, IsDecided, RanOut, call_of}
use Rattle.krb_login.specs.declared.decision.Decision.{Decision}
use Rattle.krb_login.specs.declared.service.Given.{Given}
use Rattle.krb_login.specs.declared.terms.Terms.{Terms}
use Rattle.krb_replay.specs.Limit.{Limits}
use Rattle.krb_replay.specs.Memory.{SameStamps, later_of}
use Rattle.krb_replay.specs.Stamp.{Stamp}

-- A memory is read by these words: which stamps it has, its latest moment, its limits, its counts, and whether it forgets. Terms, acceptor
-- and negotiation are those before and after.
pub record Serves {M : Type 0} (has : M → Stamp → Type 0) (newest : M → Option ℤ) (limits : M → List Limits) (refusals : M → List ℕ) (forgetting : Bool)
    (old_terms new_terms : Terms) (old new : Service M) (given : Given) (negotiation after : Negotiation) (decision : Decision) : Type 0 where
  pub terms : new_terms ≡ old_terms
  pub setup : new.setup ≡ old.setup
  pub goes_to : GoesTo given.bytes.now decision after
  pub decided : (history : List Arrival) → Stands has newest old history → Decides (call_of old_terms old.setup history negotiation given) decision
  pub goes_on : (history : List Arrival) → Stands has newest old history
      → GoesOn (Stands has newest new) (call_of old_terms old.setup history negotiation given) decision
  pub moves : IsDecided decision → newest new.memory ≡ Some (later_of (newest old.memory) given.now)
  pub forgets : IsTrue forgetting → (history : List Arrival) → Stands has newest old history → IsDecided decision
      → GoesOn (λ after. SameStamps (IsShownLately old.setup after) (has new.memory)) (call_of old_terms old.setup history negotiation given) decision
  pub unchanged : (history : List Arrival) → Stands has newest old history
      → GoesOn (λ after. after ≡ history → SameMemory has newest old.memory new.memory) (call_of old_terms old.setup history negotiation given) decision
  pub heeds : (history : List Arrival) → Stands has newest old history
      → HeedsLimits (has old.memory) (limits old.memory) (refusals old.memory) (refusals new.memory)
      (call_of old_terms old.setup history negotiation given) (RanOut decision)
  pub same_limits : limits new.memory ≡ limits old.memory
