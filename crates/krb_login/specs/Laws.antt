-- What follows from a service's decision.
use Rattle.std.specs.Prelude.{◌≡◌, ℕ, ℤ, List, Vec, Option, Some, IfSome, IsSomeAnd}
use Rattle.std.specs.declared.alloc.Global.{Global}
use Rattle.krb_der.specs.Kind.{ValueOf}
use Rattle.krb_msg.specs.Module.{ap_req, enc_ticket_part}
use Rattle.krb_msg.specs.Fields.{part_client}
use Rattle.krb_time.specs.Moments.{micros_of}
use Rattle.krb_gss.specs.declared.mechanism.Mechanism.{Mechanism}
use Rattle.krb_gss.specs.declared.verdict.Verdict.TheVariants.{Completed, Rejected}
use Rattle.krb_gss.specs.Answer.{reply, error, WritesVerdict}
use Rattle.krb_gss.specs.Said.{Says}
use Rattle.krb_ap.specs.Answer.{taken_of}
use Rattle.krb_ap.specs.ErrorReply.{IsErrorReply}
use Rattle.krb_ap.specs.Finish.{Agreement, IsAgreed}
use Rattle.krb_ap.specs.Opened.{Ticketed, session_key}
use Rattle.krb_ap.specs.Request.{Awaited}
use Rattle.krb_ap.specs.Setup.{arrival}
use Rattle.krb_ap.specs.Taken.{Accept}
use Rattle.krb_ap.specs.declared.accepted.Accepted.{Accepted}
use Rattle.krb_ap.specs.declared.refusal.Refusal.{Refusal}
use Rattle.krb_login.specs.Asked.{Asks}
use Rattle.krb_login.specs.Carrying.{GoesBack}
use Rattle.krb_login.specs.Login.{Call, HoldsRequest}
use Rattle.krb_login.specs.Terms.{Meets}
use Rattle.krb_login.specs.declared.asked.Asked.{Asked}
use Rattle.krb_login.specs.declared.carrier.Carrier.{Carrier}
use Rattle.krb_login.specs.declared.decision.LetIn.{LetIn}
use Rattle.krb_login.specs.declared.decision.Refused.{Refused}
use Rattle.krb_login.specs.declared.decision.Decision.{Decision}
use Rattle.krb_login.specs.declared.decision.Decision.TheVariants as decisions

-- ---- who is let in
-- what a decision gives of a client: who it is, the keys, and all else that is sealed
abbrev pub Gives : Decision → Accepted → Type 0
Gives (decisions.LetIn login) accepted = login.accepted ≡ accepted
Gives (decisions.GoOn bytes) accepted = ⊥
Gives (decisions.Refused refused) accepted = ⊥

-- The bytes hold a request that is accepted with this, and meets the terms. The key of an entry of
-- the keytab opens its ticket, which names the client and has the session key.
pub record IsRightlyIn (call : Call) (accepted : Accepted) : Type 0 where
  pub carrier : Carrier
  pub request : List ℕ
  pub holds : HoldsRequest call carrier request
  pub is_accepted : Accept call.setup call.history (arrival request call.now) (taken_of accepted)
  pub meets : Meets call.terms (taken_of accepted)
  pub message : ValueOf ap_req
  pub part : ValueOf enc_ticket_part
  pub opens : Ticketed call.setup request message part
  pub client : accepted.client ≡ part_client part
  pub key : accepted.session_key ≡ session_key part

-- ---- what goes back
-- A reply goes back in the carrier of the request that is let in, and answers no other: who has the
-- session key, and takes the reply as the answer to a request of its own, sent that one at the
-- moment of this one.
pub record AnswersThat (call : Call) (login : LetIn) : Type 0 where
  pub carrier : Carrier
  pub request : List ℕ
  pub message : List ℕ
  pub sent : Vec ℕ Global
  pub holds : HoldsRequest call carrier request
  pub is_accepted : Accept call.setup call.history (arrival request call.now) (taken_of login.accepted)
  pub answer : login.answer ≡ Some sent
  pub back : GoesBack carrier (reply message) sent.items
  pub no_other : (awaited : Awaited) (agreement : Agreement) → awaited.key ≡ login.accepted.session_key
      → IsAgreed awaited message agreement → awaited.at ≡ micros_of login.accepted.ctime login.accepted.cusec

-- What a refusal shows is in the open: what the bytes themselves ask for, and a reject or an error
-- with no more than a code, the service's time and the name that the bytes ask for.
pub data IsOpen (call : Call) (bytes : List ℕ) : Type 0 where
  reject : WritesVerdict Rejected bytes → IsOpen call bytes
  by_error : (carrier : Carrier) (request : List ℕ) (asked : Asked) (refusal : Refusal) (message : List ℕ)
      → HoldsRequest call carrier request → Asks request asked → IsErrorReply refusal call.now asked.service message
      → GoesBack carrier (error message) bytes → IsOpen call bytes

pub record AsksSo (call : Call) (asked : Asked) : Type 0 where
  pub carrier : Carrier
  pub request : List ℕ
  pub holds : HoldsRequest call carrier request
  pub asks : Asks request asked

-- the same call when the clock shows a later moment
abbrev pub at_moment : Call → ℤ → Call
at_moment call now = record {
  terms = call.terms;
  setup = call.setup;
  history = call.history;
  negotiation = call.negotiation;
  bytes = call.bytes;
  now = now;
  confounder = call.confounder;
  choice = call.choice;
}

pub record ShowsWhatIsOpen (call : Call) (refused : Refused) : Type 0 where
  pub asked : IfSome refused.asked (AsksSo call)
  pub answer : IfSome refused.answer (λ sent. IsOpen call sent.items)

-- ---- what a client reads of it
-- these bytes go back
abbrev pub SendsBack : Decision → List ℕ → Type 0
SendsBack (decisions.LetIn login) bytes = IsSomeAnd login.answer (λ sent. sent.items ≡ bytes)
SendsBack (decisions.GoOn sent) bytes = sent.items ≡ bytes
SendsBack (decisions.Refused refused) bytes = IsSomeAnd refused.answer (λ sent. sent.items ≡ bytes)

-- a client reads in them that the negotiation is completed, without a reply (krb_gss's `read_verdict`)
abbrev pub SaysCompleted : List ℕ → Type 0
SaysCompleted bytes = (first : Option Mechanism) × Says (Completed first) bytes

abbrev pub IsIn : Decision → Type 0
IsIn (decisions.LetIn login) = Unit {0}
IsIn (decisions.GoOn bytes) = ⊥
IsIn (decisions.Refused refused) = ⊥
