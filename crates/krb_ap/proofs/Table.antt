-- The table of causes, and how a cause becomes the first.
use Rattle.std.proofs.Common.{◌≡◌, ℕ, ◌<◌, List, subst, arith, ◌⊎◌, inl, inr}
use Rattle.krb_der.specs.Kind.{ValueOf}
use Rattle.krb_der.specs.Spells.{IsMessage}
use Rattle.krb_der.specs.declared.fault.Fault.{Fault}
use Rattle.krb_der.specs.declared.fault.FaultKind.TheVariants.{Truncated}
use Rattle.krb_msg.specs.Module.{ap_req}
use Rattle.krb_ap.specs.Setup.{Setup, Arrival}
use Rattle.krb_ap.specs.Causes.{Holds, place}
use Rattle.krb_ap.specs.declared.refusal.Refusal.{Refusal}
use Rattle.krb_ap.specs.declared.refusal.Refusal.TheVariants.{MessageType, Malformed, UserToUser, TicketEtype, NotUs, NoKey, BadKeyVersion, TicketIntegrity, SessionKey, AuthenticatorIntegrity, BadMatch, Skew, JustStarted, Repeat, NotYetValid, Expired, Transited, Authorization, OutOfMemory}

-- no row before this place holds
abbrev pub Clear : Setup → List Arrival → Arrival → ℕ → Type 0
Clear setup history call n = (other : Refusal) → place other < n → ¬ Holds setup history call other

first : (other : Refusal) → place other < place MessageType → ⊥
first other h = grind arith

-- no row is before the first
pub none_before : (setup : Setup) (history : List Arrival) (call : Arrival) → Clear setup history call (place MessageType)
none_before setup history call other h holds = first other h

-- the row of malformed requests, whatever the fault
abbrev pub no_fault : Fault
no_fault = record { kind = Truncated; at = 0 }

abbrev pub malformed : Refusal
malformed = Malformed no_fault

abbrev pub fault_in : Refusal → Fault
fault_in (Malformed fault) = fault
fault_in _ = no_fault

-- the row that comes right after one; whichever the fault is, none comes after a malformed request's
abbrev pub next : Refusal → Refusal
next MessageType = malformed
next UserToUser = TicketEtype
next TicketEtype = NotUs
next NotUs = NoKey
next NoKey = BadKeyVersion
next BadKeyVersion = TicketIntegrity
next TicketIntegrity = SessionKey
next SessionKey = AuthenticatorIntegrity
next AuthenticatorIntegrity = BadMatch
next BadMatch = Skew
next Skew = JustStarted
next JustStarted = Repeat
next Repeat = NotYetValid
next NotYetValid = Expired
next Expired = Transited
next Transited = Authorization
next Authorization = OutOfMemory
next r = r

next_is : (r other : Refusal) → place other < place (next r) → (place other < place r) ⊎ (other ≡ r)
next_is MessageType other below = grind arith
next_is UserToUser other below = grind arith
next_is TicketEtype other below = grind arith
next_is NotUs other below = grind arith
next_is NoKey other below = grind arith
next_is BadKeyVersion other below = grind arith
next_is TicketIntegrity other below = grind arith
next_is SessionKey other below = grind arith
next_is AuthenticatorIntegrity other below = grind arith
next_is BadMatch other below = grind arith
next_is Skew other below = grind arith
next_is JustStarted other below = grind arith
next_is Repeat other below = grind arith
next_is NotYetValid other below = grind arith
next_is Expired other below = grind arith
next_is Transited other below = grind arith
next_is Authorization other below = grind arith
next_is _ other below = inl below

-- a row that doesn't hold is passed
pub pass : (setup : Setup) (history : List Arrival) (call : Arrival) (r : Refusal) → Clear setup history call (place r)
    → ¬ Holds setup history call r → Clear setup history call (place (next r))
pass setup history call r clear refuted other below holds =
    elim (next_is r other below) [
      | inl before ↦ clear other before holds
      | inr at ↦ refuted (subst (λ (x : Refusal). Holds setup history call x) at holds)
    ]

from_malformed : (other : Refusal) → place other < place UserToUser → (place other < place malformed) ⊎ (other ≡ Malformed (fault_in other))
from_malformed other h = grind arith

-- it says that none is spelled
pub pass_malformed : (setup : Setup) (history : List Arrival) (call : Arrival) (request : ValueOf ap_req) → IsMessage ap_req request call.bytes
    → Clear setup history call (place malformed) → Clear setup history call (place UserToUser)
pass_malformed setup history call request message clear other below holds =
    elim (from_malformed other below) [
      | inl before ↦ clear other before holds
      | inr at ↦ spelled (fault_in other) (subst (λ (x : Refusal). Holds setup history call x) at holds)
    ]
  where
    spelled : (fault : Fault) → Holds setup history call (Malformed fault) → ⊥
    spelled fault h = h.0 request message
