-- What a service does by the limits of its acceptor's memory, in the words of krb_ap's `Service`.
use Rattle.std.specs.Prelude.{◌≡◌, ℕ, List}
use Rattle.krb_replay.specs.Limit.{Limits}
use Rattle.krb_replay.specs.Stamp.{Stamp}
use Rattle.krb_ap.specs.Causes.{Cause as IsCause, IsRemembered}
use Rattle.krb_ap.specs.Service.{HeedsLimits as HeedsLimitsAt}
use Rattle.krb_ap.specs.Setup.{arrival}
use Rattle.krb_ap.specs.declared.refusal.Refusal.{Refusal}
use Rattle.krb_gss.specs.declared.fault.TokenFault.{TokenFault}
use Rattle.krb_gss.specs.declared.mechanism.Mechanism.{Mechanism}
use Rattle.krb_gss.specs.declared.negotiating.Negotiation.TheVariants.{Begun}
use Rattle.krb_gss.specs.Negotiation.{IsAsking}
use Rattle.krb_login.specs.Login.{Call, HoldsRequest, IsFaultOf}
use Rattle.krb_login.specs.declared.carrier.Carrier.{Carrier}

-- the bytes hold no request: they are at fault, or ask for the mechanism first
pub data HoldsNone (call : Call) : Type 0 where
  faulty : (fault : TokenFault) → IsFaultOf call.negotiation call.bytes fault → HoldsNone call
  asking : (first : Mechanism) → call.negotiation ≡ Begun → IsAsking first call.bytes → HoldsNone call

-- Which stamps the memory has before, its limits, its counts of what was refused for each of them
-- before and after, and whether the service says that memory ran out. Nothing is counted for bytes that
-- hold no request. A request that is past a limit is refused so. No other is counted, and only the first
-- limit that it reaches counts it. One that has a cause before it is remembered isn't counted either.
pub data HeedsLimits (Has : Stamp → Type 0) (limits : List Limits) (old new : List ℕ) (call : Call) (IsLacking : Type 0) : Type 0 where
  of_none : HoldsNone call → new ≡ old → HeedsLimits Has limits old new call IsLacking
  of_request : (carrier : Carrier) (request : List ℕ) → HoldsRequest call carrier request
      → HeedsLimitsAt Has limits old new call.setup call.history (arrival request call.now) IsLacking
      → ((cause : Refusal) → IsCause call.setup call.history (arrival request call.now) cause → ¬ IsRemembered cause → new ≡ old)
      → HeedsLimits Has limits old new call IsLacking
