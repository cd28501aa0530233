-- What a request comes in, and what its answer goes back in: by itself, in the first token of a
-- client, or in a later token of a negotiation (RFC 4121, section 4.1; RFC 4178, section 4.2).
use Rattle.std.specs.Prelude.{◌≡◌, ◌≤◌, ℕ, List, ◌∷◌, length, Vec, Option, Some, None, IsSomeAnd}
use Rattle.std.specs.declared.alloc.Global.{Global}
use Rattle.krb_der.specs.Fault.{HasHead}
use Rattle.krb_der.specs.Place.{Place, begin_at}
use Rattle.krb_der.specs.Spells.{limit}
use Rattle.krb_gss.specs.declared.negotiating.Negotiation.{Negotiation}
use Rattle.krb_gss.specs.declared.negotiating.Negotiation.TheVariants.{Begun, Asked, Ended}
use Rattle.krb_gss.specs.declared.opening.Wrapping.TheVariants.{Negotiated}
use Rattle.krb_gss.specs.declared.verdict.Verdict.{Verdict}
use Rattle.krb_gss.specs.declared.verdict.Verdict.TheVariants.{Completed, Rejected}
use Rattle.krb_gss.specs.Token.{IsToken}
use Rattle.krb_gss.specs.Later.{IsLaterToken}
use Rattle.krb_gss.specs.Answer.{Message, bytes_of, WritesAnswer, WritesLater, WritesVerdict, answer_size, later_size}
use Rattle.krb_gss.specs.Mechanism.{spnego}
use Rattle.krb_login.specs.declared.carrier.Carrier.{Carrier}
use Rattle.krb_login.specs.declared.carrier.Carrier.TheVariants.{Alone, First, Later}

-- The first byte of a message AP-REQ, which no token has (RFC 4120, section 5.5.1).
abbrev pub request_tag : ℕ
request_tag = 0x6e

pub record BeginsRequest (bytes : List ℕ) : Type 0 where
  pub rest : List ℕ
  pub bytes_are : bytes ≡ request_tag ∷ rest

-- The bytes begin as a token of SPNEGO, whatever is after its name (RFC 2743, section 3.1; RFC 4178,
-- section 4).
pub record BeginsNegotiation (bytes : List ℕ) : Type 0 where
  pub within : length bytes ≤ limit
  pub frame : Place
  pub behind : Place
  pub name : Place
  pub after : Place
  pub framed : HasHead 0x60 (begin_at bytes) frame behind
  pub named : HasHead 0x06 frame name after
  pub is_spnego : name.rest ≡ spnego

-- they belong to a negotiation, at this point of it
abbrev pub IsNegotiating : Negotiation → List ℕ → Type 0
IsNegotiating Begun bytes = BeginsNegotiation bytes
IsNegotiating (Asked first) bytes = Unit {0}
IsNegotiating Ended bytes = ⊥

-- At this point of a negotiation the bytes hold a request in a carrier. A request by itself is the
-- bytes, whatever stands after its first byte.
abbrev pub Carries : Negotiation → Carrier → List ℕ → List ℕ → Type 0
Carries Begun Alone request bytes = BeginsRequest bytes × (request ≡ bytes)
Carries Begun (First wrapping mechanism) request bytes = IsToken wrapping mechanism request bytes
Carries (Asked first) (Later mechanism) request bytes = IsLaterToken mechanism request bytes
Carries _ _ request bytes = ⊥

-- a message AP-REP or KRB-ERROR goes back in the carrier of its request
abbrev pub GoesBack : Carrier → Message → List ℕ → Type 0
GoesBack Alone message bytes = bytes ≡ bytes_of message
GoesBack (First wrapping mechanism) message bytes = WritesAnswer wrapping mechanism message bytes
GoesBack (Later mechanism) message bytes = WritesLater mechanism message bytes

-- a message of n bytes isn't too long for the carrier
abbrev pub FitsInto : Carrier → ℕ → Type 0
FitsInto Alone n = Unit {0}
FitsInto (First wrapping mechanism) n = answer_size wrapping mechanism n ≤ limit
FitsInto (Later mechanism) n = later_size mechanism n ≤ limit

-- What a service says without a message: in a negotiation accept-completed or reject, else nothing.
abbrev pub completed : Carrier → Option Verdict
completed (First (Negotiated first) mechanism) = Some (Completed (Some first))
completed (Later mechanism) = Some (Completed None)
completed _ = None

abbrev pub rejected : Carrier → Option Verdict
rejected (First (Negotiated first) mechanism) = Some Rejected
rejected (Later mechanism) = Some Rejected
rejected _ = None

-- the bytes that go back say this, or there are none
abbrev pub Says : Option Verdict → Option (Vec ℕ Global) → Type 0
Says None sent = sent ≡ None
Says (Some verdict) sent = IsSomeAnd sent (λ bytes. WritesVerdict verdict bytes.items)
