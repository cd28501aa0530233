-- The service's answer to the first token of a client: a token of Kerberos (RFC 4121, section 4.1), alone or in a NegTokenResp (RFC
-- 4178, section 4.2.2).
use Rattle.std.specs.Prelude.{◌≡◌, ℕ, List, [], Option, Some, None}
use Rattle.krb_der.specs.Place.{Place}
use Rattle.krb_gss.specs.declared.mechanism.Mechanism.{Mechanism}
use Rattle.krb_gss.specs.declared.opening.Wrapping.{Wrapping}
use Rattle.krb_gss.specs.declared.opening.Wrapping.TheVariants.{Bare, Negotiated}
use Rattle.krb_gss.specs.declared.answering.Answer.{Answer}
use Rattle.krb_gss.specs.declared.answering.Answer.TheVariants.{Reply, Error}
use Rattle.krb_der.specs.Parts.{PlacesOf}
use Rattle.krb_gss.specs.Module.{first_response, first_response_mechanism, first_response_token}
use Rattle.krb_gss.specs.Token.{IsMessage, IsKerberos, HoldsFields, IsNegotiated, IsWhole}
use Rattle.krb_gss.specs.declared.verdict.Verdict.{Verdict}
use Rattle.krb_gss.specs.declared.verdict.Verdict.TheVariants.{Completed, Incomplete, Rejected}
use Rattle.krb_gss.specs.Wrapping.{IsTokenField, IsResponding, Writes, written_size, response_size}

-- a message AP-REP, or KRB-ERROR
pub data Message : Type 0 where
  reply : List ℕ → Message
  error : List ℕ → Message

abbrev pub message_of : Answer → Message
message_of (Reply bytes) = reply bytes.now
message_of (Error bytes) = error bytes.now

abbrev pub bytes_of : Message → List ℕ
bytes_of (reply bytes) = bytes
bytes_of (error bytes) = bytes

-- the first byte of the token's identifier (RFC 4121, section 4.1); the other is 0
abbrev pub id_of : Message → ℕ
id_of (reply bytes) = 0x02
id_of (error bytes) = 0x03

-- negState: accept-completed, or reject (RFC 4178, section 4.2.2)
abbrev pub state_of : Message → ℕ
state_of (reply bytes) = 0
state_of (error bytes) = 2

-- NegTokenResp with a supportedMech: where the content of that stands, and the responseToken; what the others hold isn't looked at
abbrev pub of_response : Place → PlacesOf first_response → Place × Option Place
of_response fields v = (first_response_mechanism v, first_response_token v)

abbrev pub IsResponse : Place → Place → Option Place → Type 0
IsResponse here oid token = HoldsFields 0xa1 first_response of_response here (oid, token)

-- an answer in its wrapping; where its identifier stands
abbrev pub IsWrappedAnswer : Place → Wrapping → Mechanism → Place → Type 0
IsWrappedAnswer here Bare mechanism inner = IsKerberos here mechanism inner
IsWrappedAnswer here (Negotiated first) mechanism inner = IsNegotiated (IsResponse here) first mechanism inner

-- the message stands at its identifier
abbrev pub Stands : Place → Message → Type 0
Stands here message = IsMessage (id_of message) here (bytes_of message)

-- the bytes are a service's answer, and hold this message
abbrev pub IsAnswer : Wrapping → Mechanism → Message → List ℕ → Type 0
IsAnswer wrapping mechanism message =
    IsWhole (λ here (x : Wrapping × Mechanism) inner. IsWrappedAnswer here x.0 x.1 inner) (λ inner. Stands inner message) (wrapping, mechanism)

-- ---- what is written
abbrev pub WritesAnswer : Wrapping → Mechanism → Message → List ℕ → Type 0
WritesAnswer wrapping mechanism message = Writes wrapping (Some (state_of message)) (id_of message) mechanism (bytes_of message)

-- how many bytes are written for an answer of n bytes, whatever its state
abbrev pub answer_size : Wrapping → Mechanism → ℕ → ℕ
answer_size wrapping mechanism n = written_size wrapping (Some 0) mechanism n

-- ---- what is written in later rounds, and without a token
-- An answer to a client's later token. It doesn't name the mechanism, which only the first answer does (RFC 4178, section 4.2.2).
abbrev pub WritesLater : Mechanism → Message → List ℕ → Type 0
WritesLater mechanism message = IsResponding (state_of message) None (IsTokenField (id_of message) mechanism (bytes_of message))

abbrev pub later_size : Mechanism → ℕ → ℕ
later_size mechanism n = response_size None mechanism n

-- negState of what is said without a token: accept-completed, accept-incomplete or reject
abbrev pub said_state : Verdict → ℕ
said_state (Completed first) = 0
said_state (Incomplete first) = 1
said_state Rejected = 2

-- the mechanism that it names
abbrev pub said_name : Verdict → Option Mechanism
said_name (Completed first) = first
said_name (Incomplete first) = Some first
said_name Rejected = None

abbrev pub WritesVerdict : Verdict → List ℕ → Type 0
WritesVerdict verdict = IsResponding (said_state verdict) (said_name verdict) (λ bytes. bytes ≡ [])
