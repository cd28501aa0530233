-- What the bytes of a client hold, in the words of private contracts.
use Rattle.std.specs.Prelude.{◌≡◌, ◌⊎◌, ℕ, ℤ, Bool, List, Vec, Option, Some, None, Result, Ok, Err}
use Rattle.std.specs.declared.alloc.Global.{Global}
use Rattle.krb_ap.specs.declared.accepted.Accepted.{Accepted}
use Rattle.krb_ap.specs.declared.refusal.Refusal.{Refusal}
use Rattle.krb_gss.specs.declared.negotiating.Negotiation.{Negotiation}
use Rattle.krb_gss.specs.declared.negotiating.Negotiation.TheVariants.{Begun, Asked, Ended}
use Rattle.krb_gss.specs.Negotiation.{IsAsking}
use Rattle.krb_login.specs.Asked.{Asks, AsksNothing}
use Rattle.krb_login.specs.Carrying.{Carries}
use Rattle.krb_login.specs.Login.{IsNothingDue, IsOfRequest, IsRefusalOf, IsUnsentSo}
use Rattle.krb_login.specs.declared.asked.Asked.{Asked as AskedFor}
use Rattle.krb_login.specs.declared.carrier.Carrier.{Carrier}
use Rattle.krb_login.specs.declared.cause.Cause.TheVariants.{OutOfMemory}
use Rattle.krb_login.specs.declared.decision.Refused.{Refused}
use Rattle.krb_login.specs.declared.decision.Unsent.{Unsent}
use Rattle.krb_login.specs.declared.opening.Held.{Held}
use Rattle.krb_login.specs.declared.opening.Held.TheVariants.{Request, Nothing}

abbrev pub Holds : Negotiation → List ℕ → Held → Type 0
Holds negotiation bytes (Request carrier request) = Carries negotiation carrier request.now bytes
Holds negotiation bytes (Nothing first) = (negotiation ≡ Begun) × IsAsking first bytes

-- bytes go back to a client that is refused, or none are due, or it is said why they don't; and this
-- is said of what the request asks for
abbrev pub IsSentSo : ℤ → Carrier → List ℕ → Refusal → Option AskedFor → Result (Option (Vec ℕ Global)) Unsent → Type 0
IsSentSo now carrier request refusal said (Ok (Some bytes)) = IsRefusalOf now carrier request refusal bytes.items
IsSentSo now carrier request refusal said (Ok None) = IsNothingDue carrier request
IsSentSo now carrier request refusal said (Err why) = IsUnsentSo now carrier request refusal said why

-- the bytes aren't a request, or one whose client awaits a reply or not
abbrev pub Awaits : List ℕ → Bool → Type 0
Awaits bytes wants = AsksNothing bytes ⊎ ((asked : AskedFor) × (Asks bytes asked × (asked.wants_reply ≡ wants)))

-- a request was accepted, or refused for a cause of its own
abbrev pub IsJudged : Result Accepted Refused → Type 0
IsJudged (Ok accepted) = Unit {0}
IsJudged (Err refused) = IsOfRequest refused.cause

-- and memory ran out for it
abbrev pub HasRunOut : Result Accepted Refused → Type 0
HasRunOut (Ok accepted) = ⊥
HasRunOut (Err refused) = refused.cause ≡ OutOfMemory

-- how far the negotiation is then
abbrev pub GoesTo : Negotiation → Held → Type 0
GoesTo new (Request carrier request) = new ≡ Ended
GoesTo new (Nothing first) = new ≡ Asked first
