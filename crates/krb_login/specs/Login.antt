-- What a service decides on the bytes of a client, and what it sends back.
use Rattle.std.specs.Prelude.{◌≡◌, ◌≢◌, ◌⊎◌, ℕ, ℤ, List, ◌∷◌, length, Vec, Option, Some, None, IfSome, IsSomeAnd, true, false, Err}
use Rattle.std.specs.declared.alloc.Global.{Global}
use Rattle.krb_gss.specs.declared.mechanism.Mechanism.{Mechanism}
use Rattle.krb_gss.specs.declared.fault.TokenFault.{TokenFault}
use Rattle.krb_gss.specs.declared.negotiating.Negotiation.{Negotiation}
use Rattle.krb_gss.specs.declared.negotiating.Negotiation.TheVariants.{Begun, Asked, Ended}
use Rattle.krb_gss.specs.declared.verdict.Verdict.TheVariants.{Incomplete, Rejected}
use Rattle.krb_gss.specs.Answer.{reply, error, WritesVerdict}
use Rattle.krb_gss.specs.Negotiation.{IsAsking, Takes}
use Rattle.krb_ap.specs.Setup.{Setup, Arrival, arrival}
use Rattle.krb_ap.specs.Taken.{Taken, Accept}
use Rattle.krb_ap.specs.Answer.{taken_of}
use Rattle.krb_ap.specs.Causes.{Cause as IsCause, TellsPlaceWithin, code_of as refusal_code}
use Rattle.krb_ap.specs.ErrorCodes.{krb_err_generic}
use Rattle.krb_ap.specs.Opened.{IsOrdinary}
use Rattle.krb_ap.specs.Reply.{IsReply}
use Rattle.krb_ap.specs.ErrorReply.{IsErrorReply, IsErrorTooLong}
use Rattle.krb_ap.specs.declared.refusal.Refusal.{Refusal}
use Rattle.krb_ap.specs.declared.refusal.Refusal.TheVariants as refusals
use Rattle.krb_ap.specs.declared.reply.ReplyOptions.{ReplyOptions}
use Rattle.krb_name.specs.declared.principal.Principal.{Principal}
use Rattle.krb_login.specs.Terms.{Meets, IsFirstBroken, code_of as breach_code}
use Rattle.krb_login.specs.Asked.{Asks, AsksNothing, AsksSomething}
use Rattle.krb_login.specs.Carrying.{BeginsRequest, Carries, FitsInto, GoesBack, IsNegotiating, Says, completed, rejected}
use Rattle.krb_login.specs.declared.terms.Terms.{Terms}
use Rattle.krb_login.specs.declared.asked.Asked.{Asked as AskedFor}
use Rattle.krb_login.specs.declared.carrier.Carrier.{Carrier}
use Rattle.krb_login.specs.declared.cause.Cause.{Cause}
use Rattle.krb_login.specs.declared.cause.Cause.TheVariants.{Token, Request, Breached, OutOfMemory, StoreFailed}
use Rattle.krb_login.specs.declared.service.Given.{Given}
use Rattle.krb_login.specs.declared.decision.LetIn.{LetIn}
use Rattle.krb_login.specs.declared.decision.Refused.{Refused}
use Rattle.krb_login.specs.declared.decision.Unsent.{Unsent}
use Rattle.krb_login.specs.declared.decision.Unsent.TheVariants as unsent
use Rattle.krb_login.specs.declared.decision.Decision.{Decision}
use Rattle.krb_login.specs.declared.decision.Decision.TheVariants as decisions

-- What a service decides by, and what it is given: its terms, how its acceptor is set up and what
-- was given before, what the negotiation was, and the rest of the call.
pub record Call : Type 0 where
  pub terms : Terms
  pub setup : Setup
  pub history : List Arrival
  pub negotiation : Negotiation
  pub bytes : List ℕ
  pub now : ℤ
  pub confounder : List ℕ
  pub choice : ReplyOptions

abbrev pub call_with : Terms → Setup → List Arrival → Negotiation → List ℕ → Given → Call
call_with terms setup history negotiation bytes given = record {
  terms = terms;
  setup = setup;
  history = history;
  negotiation = negotiation;
  bytes = bytes;
  now = given.now;
  confounder = given.confounder.now;
  choice = given.choice;
}

-- the same of bytes, a moment and the rest
abbrev pub call_for : Terms → Setup → List Arrival → Negotiation → List ℕ → ℤ → List ℕ → ReplyOptions → Call
call_for terms setup history negotiation bytes now confounder choice = record {
  terms = terms;
  setup = setup;
  history = history;
  negotiation = negotiation;
  bytes = bytes;
  now = now;
  confounder = confounder;
  choice = choice;
}

abbrev pub call_of : Terms → Setup → List Arrival → Negotiation → Given → Call
call_of terms setup history negotiation given = call_with terms setup history negotiation given.bytes.now given

-- the bytes hold this request, in a carrier
abbrev pub HoldsRequest : Call → Carrier → List ℕ → Type 0
HoldsRequest call carrier request = Carries call.negotiation carrier request call.bytes

-- ---- let in
-- A reply goes back to a client that awaits one, and else what is said without.
pub record IsAnswered (carrier : Carrier) (taken : Taken) (confounder : List ℕ) (choice : ReplyOptions) (sent : Option (Vec ℕ Global)) : Type 0 where
  pub awaited : taken.wants_reply ≡ true → IsSomeAnd sent (λ bytes. (message : List ℕ)
      × (IsReply taken confounder choice message × GoesBack carrier (reply message) bytes.items))
  pub silent : taken.wants_reply ≡ false → Says (completed carrier) sent

-- something goes back
abbrev pub IsAnswerDue : Carrier → Taken → Type 0
IsAnswerDue carrier taken = (taken.wants_reply ≡ true) ⊎ (completed carrier ≢ None)

-- The bytes hold a request that is accepted and meets the terms.
pub record IsLetIn (call : Call) (login : LetIn) : Type 0 where
  pub carrier : Carrier
  pub request : List ℕ
  pub holds : HoldsRequest call carrier request
  pub accepted : Accept call.setup call.history (arrival request call.now) (taken_of login.accepted)
  pub meets : Meets call.terms (taken_of login.accepted)
  pub answered : IsAnswered carrier (taken_of login.accepted) call.confounder call.choice login.answer

-- ---- refused
-- the fault of bytes that aren't taken
pub record IsFaultOf (negotiation : Negotiation) (bytes : List ℕ) (fault : TokenFault) : Type 0 where
  pub not_alone : negotiation ≡ Begun → BeginsRequest bytes → ⊥
  pub faulty : Takes bytes negotiation (Err fault) Ended

-- A reject goes back to a client that is in a negotiation (RFC 4178, section 4.2.2). To others nothing
-- goes back, since it isn't known what they await. A reject that is due is missing only if memory ran
-- out, and then the service says so.
pub record IsFaultySo (negotiation : Negotiation) (bytes : List ℕ) (fault : TokenFault) (refused : Refused) : Type 0 where
  pub faulty : IsFaultOf negotiation bytes fault
  pub asked : refused.asked ≡ None
  pub answer : IfSome refused.answer (λ sent. IsNegotiating negotiation bytes × WritesVerdict Rejected sent.items)
  pub due : refused.answer ≡ None → refused.unsent ≡ None → IsNegotiating negotiation bytes → ⊥
  pub unsent : IfSome refused.unsent (λ why. (why ≡ unsent.OutOfMemory) × ((refused.answer ≡ None) × IsNegotiating negotiation bytes))

-- The error of a refusal goes back to a client that awaits a reply (RFC 4120, section 3.2.3), and
-- else a reject, in a negotiation.
pub data IsRefusalOf (now : ℤ) (carrier : Carrier) (request : List ℕ) (refusal : Refusal) (bytes : List ℕ) : Type 0 where
  by_error : (asked : AskedFor) (message : List ℕ) → Asks request asked → asked.wants_reply ≡ true
      → IsErrorReply refusal now asked.service message → GoesBack carrier (error message) bytes → IsRefusalOf now carrier request refusal bytes
  by_reject : (asked : AskedFor) → Asks request asked → asked.wants_reply ≡ false
      → IsSomeAnd (rejected carrier) (λ verdict. WritesVerdict verdict bytes) → IsRefusalOf now carrier request refusal bytes
  unread : AsksNothing request → IsSomeAnd (rejected carrier) (λ verdict. WritesVerdict verdict bytes)
      → IsRefusalOf now carrier request refusal bytes

-- Nothing goes back to a client that awaits no reply, outside of a negotiation.
pub data IsNothingDue (carrier : Carrier) (request : List ℕ) : Type 0 where
  silent : (asked : AskedFor) → Asks request asked → asked.wants_reply ≡ false → rejected carrier ≡ None → IsNothingDue carrier request
  unread_alone : AsksNothing request → rejected carrier ≡ None → IsNothingDue carrier request

-- An error is due to a client that awaits a reply, and else a reject in a negotiation.
abbrev pub IsErrorDue : List ℕ → Type 0
IsErrorDue request = (asked : AskedFor) × (Asks request asked × (asked.wants_reply ≡ true))

abbrev pub IsDue : Carrier → List ℕ → Type 0
IsDue carrier request = IsErrorDue request ⊎ (rejected carrier ≢ None)

-- the error of a refusal would be longer than messages may be, or its token would
abbrev pub IsErrorLong : Refusal → ℤ → Carrier → Principal → Type 0
IsErrorLong refusal now carrier service =
    IsErrorTooLong refusal now service
    ⊎ ((message : List ℕ) × (IsErrorReply refusal now service message × (FitsInto carrier (length message) → ⊥)))

-- Why what is due doesn't go back, if this is said of what the request asks for: the error is too
-- long, or memory ran out.
abbrev pub IsUnsentSo : ℤ → Carrier → List ℕ → Refusal → Option AskedFor → Unsent → Type 0
IsUnsentSo now carrier request refusal said unsent.TooLong =
    (asked : AskedFor) × ((said ≡ Some asked) × ((asked.wants_reply ≡ true) × IsErrorLong refusal now carrier asked.service))
IsUnsentSo now carrier request refusal said unsent.OutOfMemory = IsDue carrier request

-- What is said of a request that is refused: what it asks for, and what goes back. What it asks for is
-- missing only if the bytes aren't a request or memory ran out for it, and in this case nothing goes
-- back. If anything is due that doesn't go back, and only then, the service says why.
pub record IsRefusedSo (now : ℤ) (carrier : Carrier) (request : List ℕ) (refusal : Refusal) (refused : Refused) : Type 0 where
  pub asked : IfSome refused.asked (Asks request)
  pub read : refused.asked ≡ None → AsksNothing request ⊎ (AsksSomething request × (refused.answer ≡ None))
  pub answer : IfSome refused.answer (λ bytes. IsRefusalOf now carrier request refusal bytes.items)
  pub due : refused.answer ≡ None → refused.unsent ≡ None → IsNothingDue carrier request
  pub unsent : IfSome refused.unsent (λ why. IsUnsentSo now carrier request refusal refused.asked why × (refused.answer ≡ None))

-- nothing is said, since memory ran out
pub record SaysNothing (refused : Refused) : Type 0 where
  pub asked : refused.asked ≡ None
  pub answer : refused.answer ≡ None
  pub unsent : refused.unsent ≡ Some unsent.OutOfMemory

-- Memory runs out only while a client is asked for its token, or with a request of the ordinary kind
-- (not user-to-user, with a ticket of type 19 or 20).
pub data MayRunOut (call : Call) : Type 0 where
  asking : (first : Mechanism) → call.negotiation ≡ Begun → IsAsking first call.bytes → MayRunOut call
  deciding : (carrier : Carrier) (request : List ℕ) → HoldsRequest call carrier request → IsOrdinary request → MayRunOut call

-- A refusal names no place outside of the request. The error of a breach of the terms has the code of
-- `Authorization`, KRB_ERR_GENERIC. With a breach it is always said what the request asks for.
abbrev pub HasCause : Call → Refused → Cause → Type 0
HasCause call refused (Token fault) = IsFaultySo call.negotiation call.bytes fault refused
HasCause call refused (Request refusal) =
    (carrier : Carrier) × ((request : List ℕ) × (HoldsRequest call carrier request
    × (IsCause call.setup call.history (arrival request call.now) refusal × (TellsPlaceWithin request refusal
    × IsRefusedSo call.now carrier request refusal refused))))
HasCause call refused (Breached breach) =
    (carrier : Carrier) × ((request : List ℕ) × ((taken : Taken) × (HoldsRequest call carrier request
    × (Accept call.setup call.history (arrival request call.now) taken
    × (IsFirstBroken call.terms taken breach × (IsRefusedSo call.now carrier request refusals.Authorization refused
    × (refused.asked ≢ None)))))))
HasCause call refused OutOfMemory = MayRunOut call × SaysNothing refused
HasCause call refused StoreFailed = ⊥

-- the code of the error that goes back to a client that awaits a reply, if there is an error
abbrev pub code_of : Cause → Option ℤ
code_of (Token fault) = None
code_of (Request refusal) = refusal_code refusal
code_of (Breached breach) = Some (breach_code breach)
code_of OutOfMemory = None
code_of StoreFailed = Some krb_err_generic

-- ---- the decision
abbrev pub Decides : Call → Decision → Type 0
Decides call (decisions.LetIn login) = IsLetIn call login
Decides call (decisions.GoOn bytes) =
    (first : Mechanism) × ((call.negotiation ≡ Begun) × (IsAsking first call.bytes × WritesVerdict (Incomplete first) bytes.items))
Decides call (decisions.Refused refused) = HasCause call refused refused.cause

-- ---- afterwards
-- The negotiation goes on if the client was asked for its token, by the name that it gave Kerberos.
abbrev pub GoesTo : List ℕ → Decision → Negotiation → Type 0
GoesTo bytes (decisions.GoOn sent) new = (first : Mechanism) × (IsAsking first bytes × (new ≡ Asked first))
GoesTo bytes _ new = new ≡ Ended

-- The request was decided on: it was accepted, or refused for a cause of its own.
abbrev pub IsOfRequest : Cause → Type 0
IsOfRequest (Request refusal) = Unit {0}
IsOfRequest (Breached breach) = Unit {0}
IsOfRequest _ = ⊥

abbrev pub IsDecided : Decision → Type 0
IsDecided (decisions.LetIn login) = Unit {0}
IsDecided (decisions.GoOn bytes) = ⊥
IsDecided (decisions.Refused refused) = IsOfRequest refused.cause

-- No request was, or memory ran out.
abbrev pub IsOfNone : Cause → Type 0
IsOfNone (Token fault) = Unit {0}
IsOfNone OutOfMemory = Unit {0}
IsOfNone _ = ⊥

abbrev pub IsUndecided : Decision → Type 0
IsUndecided (decisions.LetIn login) = ⊥
IsUndecided (decisions.GoOn bytes) = Unit {0}
IsUndecided (decisions.Refused refused) = IsOfNone refused.cause

abbrev pub RanOut : Decision → Type 0
RanOut (decisions.Refused refused) = refused.cause ≡ OutOfMemory
RanOut _ = ⊥

-- A request that was decided on is in the history afterwards. If memory ran out, it isn't, unless it
-- ran out for the answer to a client that would be let in.
pub data IsAfter (call : Call) (decision : Decision) (after : List Arrival) : Type 0 where
  left : IsUndecided decision → after ≡ call.history → IsAfter call decision after
  added : (carrier : Carrier) (request : List ℕ) → IsDecided decision → HoldsRequest call carrier request
      → after ≡ arrival request call.now ∷ call.history → IsAfter call decision after
  unanswered : (carrier : Carrier) (request : List ℕ) (taken : Taken) → RanOut decision → HoldsRequest call carrier request
      → Accept call.setup call.history (arrival request call.now) taken → Meets call.terms taken → IsAnswerDue carrier taken
      → after ≡ arrival request call.now ∷ call.history → IsAfter call decision after

-- and the acceptor stands for it
pub record GoesOn (Stands : List Arrival → Type 0) (call : Call) (decision : Decision) : Type 0 where
  pub after : List Arrival
  pub is_after : IsAfter call decision after
  pub stands : Stands after
