-- What bytes are from the outside: a message alone, a token that holds one, what a service says in a negotiation, or something else.
use Rattle.std.specs.Prelude.{◌≡◌, ℕ, Bool, true, false, List, [], ◌∷◌, ◌++◌, Option, Some, None, codes}
use Rattle.krb_der.specs.Place.{begins}
use Rattle.krb_gss.specs.declared.fault.TokenFault.{TokenFault}
use Rattle.krb_gss.specs.declared.fault.TokenFault.TheVariants.{Malformed, NotToken, Response, OtherMechanism, NoToken, TokenId, Unframed, Ended}
use Rattle.krb_gss.specs.declared.mechanism.Mechanism.{Mechanism}
use Rattle.krb_gss.specs.declared.mechanism.Mechanism.TheVariants.{Kerberos, Microsoft, Draft}
use Rattle.krb_gss.specs.declared.opening.Wrapping.{Wrapping}
use Rattle.krb_gss.specs.declared.opening.Wrapping.TheVariants.{Bare, Negotiated}
use Rattle.krb_gss.specs.declared.verdict.Verdict.{Verdict}
use Rattle.krb_gss.specs.declared.verdict.Verdict.TheVariants.{Completed, Incomplete, Rejected}
use Rattle.krb_gss.specs.Token.{IsToken}
use Rattle.krb_gss.specs.Fault.{IsTokenFault}
use Rattle.krb_gss.specs.Answer.{Message as Answer, IsAnswer, bytes_of, reply, error}
use Rattle.krb_gss.specs.Answered.{IsAnswerFault}
use Rattle.krb_gss.specs.Said.{Says}
use Rattle.krb_explain.specs.Faults.{fault_line, token_text}
use Rattle.krb_explain.specs.declared.form.Form.{Form}
use Rattle.krb_explain.specs.declared.form.Form.TheVariants.{Request, Reply, Error}

pub data Layer : Type 0 where
  alone : Form → List ℕ → Layer
  asks : Wrapping → Mechanism → List ℕ → Layer
  answers : Wrapping → Mechanism → Answer → Layer
  says : Verdict → Layer
  other : TokenFault → Layer

-- the first byte of a message: APPLICATION 14, 15 or 30 (RFC 4120, sections 5.5.1, 5.5.2 and 5.9.1)
abbrev pub first_of : Form → ℕ
first_of Request = 0x6e
first_of Reply = 0x6f
first_of Error = 0x7e

-- a fault of bytes that are to be a service's answer, or else a client's token
abbrev pub IsFaultOf : Bool → List ℕ → TokenFault → Type 0
IsFaultOf true bytes fault = IsAnswerFault bytes fault
IsFaultOf false bytes fault = IsTokenFault bytes fault

-- the bytes are none of the others, and have this fault; a negotiation's answer is known by its first byte
pub record IsOther (bytes : List ℕ) (fault : TokenFault) : Type 0 where
  pub no_token : (wrapping : Wrapping) (mechanism : Mechanism) (request : List ℕ) → ¬ IsToken wrapping mechanism request bytes
  pub no_answer : (wrapping : Wrapping) (mechanism : Mechanism) (answer : Answer) → ¬ IsAnswer wrapping mechanism answer bytes
  pub no_verdict : (verdict : Verdict) → ¬ Says verdict bytes
  pub fault_is : IsFaultOf (begins 0xa1 bytes) bytes fault

abbrev pub IsLayer : List ℕ → Layer → Type 0
IsLayer bytes (alone form message) = (begins (first_of form) bytes ≡ true) × (message ≡ bytes)
IsLayer bytes (asks wrapping mechanism request) = IsToken wrapping mechanism request bytes
IsLayer bytes (answers wrapping mechanism answer) = IsAnswer wrapping mechanism answer bytes
IsLayer bytes (says verdict) = Says verdict bytes
IsLayer bytes (other fault) = IsOther bytes fault

-- ---- the message inside
abbrev pub form_of : Answer → Form
form_of (reply bytes) = Reply
form_of (error bytes) = Error

abbrev pub carried : Layer → Option (Form × List ℕ)
carried (alone form message) = Some (form, message)
carried (asks wrapping mechanism request) = Some (Request, request)
carried (answers wrapping mechanism answer) = Some (form_of answer, bytes_of answer)
carried (says verdict) = None
carried (other fault) = None

-- bytes that don't begin as a token are judged, and a token with a fault isn't
abbrev pub judged_in : List ℕ → TokenFault → Option (List ℕ)
judged_in bytes NotToken = Some bytes
judged_in bytes (Malformed fault) = None
judged_in bytes Response = None
judged_in bytes (OtherMechanism mechanism at) = None
judged_in bytes (NoToken at) = None
judged_in bytes (TokenId at) = None
judged_in bytes (Unframed at) = None
judged_in bytes Ended = None

-- what a service that takes requests judges: the message in a client's token, or bytes that don't begin as a token; nothing of what a
-- service sends in one
abbrev pub judged : List ℕ → Layer → Option (List ℕ)
judged bytes (alone form message) = Some message
judged bytes (asks wrapping mechanism request) = Some request
judged bytes (answers wrapping mechanism answer) = None
judged bytes (says verdict) = None
judged bytes (other fault) = judged_in bytes fault

-- ---- lines
abbrev pub mechanism_text : Mechanism → List ℕ
mechanism_text Kerberos = codes "Kerberos (1.2.840.113554.1.2.2)"
mechanism_text Microsoft = codes "Kerberos (1.2.840.48018.1.2.2)"
mechanism_text Draft = codes "Kerberos (1.3.5.1.5.2)"

abbrev pub verdict_text : Verdict → List ℕ
verdict_text (Completed None) = codes "accept-completed"
verdict_text (Completed (Some first)) = codes "accept-completed, mechanism " ++ mechanism_text first
verdict_text (Incomplete first) = codes "accept-incomplete: it asks for a token of the mechanism " ++ mechanism_text first
verdict_text Rejected = codes "reject"

abbrev pub token_line : List ℕ → Mechanism → List ℕ
token_line side mechanism = side ++ (codes " token (GSS-API): mechanism " ++ mechanism_text mechanism)

abbrev pub negotiation_line : List ℕ → Mechanism → List ℕ
negotiation_line side first = side ++ (codes " negotiation (SPNEGO): mechanism " ++ mechanism_text first)

-- a token of one side, in its wrapping
abbrev pub token_lines : List ℕ → Wrapping → Mechanism → List (List ℕ)
token_lines side Bare mechanism = token_line side mechanism ∷ []
token_lines side (Negotiated first) mechanism = negotiation_line side first ∷ token_line side mechanism ∷ []

abbrev pub layer_lines : Layer → List (List ℕ)
layer_lines (alone form message) = []
layer_lines (asks wrapping mechanism request) = token_lines (codes "client's") wrapping mechanism
layer_lines (answers wrapping mechanism answer) = token_lines (codes "service's") wrapping mechanism
layer_lines (says verdict) = (codes "service's negotiation (SPNEGO): " ++ verdict_text verdict) ∷ []
layer_lines (other fault) = fault_line (token_text fault) ∷ []
