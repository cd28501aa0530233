-- What the bytes of a line of `accept` are, a request or a token that holds one; and what is sent for the answer to it.
use Rattle.std.specs.Prelude.{◌≡◌, ◌<◌, ℕ, List, Option, Some, None, length}
use Rattle.hex.specs.Hex.{encode_lower}
use Rattle.krb_der.specs.Spells.{limit}
use Rattle.krb_gss.specs.Token.{IsToken}
use Rattle.krb_gss.specs.Fault.{IsTokenFault}
use Rattle.krb_gss.specs.Answer.{Message as Answer, WritesAnswer, answer_size, bytes_of}
use Rattle.krb_gss.specs.declared.fault.TokenFault.{TokenFault}
use Rattle.krb_gss.specs.declared.mechanism.Mechanism.{Mechanism}
use Rattle.krb_gss.specs.declared.opening.Wrapping.{Wrapping}
use Rattle.krb_call_lines.specs.declared.form.Envelope.{Envelope}
use Rattle.krb_call_lines.specs.declared.form.Form.{Form}
use Rattle.krb_call_lines.specs.declared.form.Form.TheVariants.{Message, Token}

-- the bytes of a line carry this request: they are it, or they are a token that holds it in this envelope
abbrev pub Carries : Form → List ℕ → Option Envelope → List ℕ → Type 0
Carries Message bytes None request = bytes ≡ request
Carries Message bytes (Some envelope) request = ⊥
Carries Token bytes None request = ⊥
Carries Token bytes (Some envelope) request = IsToken envelope.wrapping envelope.mechanism request bytes

-- the bytes are to be a token, aren't one, and have this fault
pub record IsUnopened (form : Form) (bytes : List ℕ) (fault : TokenFault) : Type 0 where
  pub form_is : form ≡ Token
  pub none : (wrapping : Wrapping) (mechanism : Mechanism) (request : List ℕ) → IsToken wrapping mechanism request bytes → ⊥
  pub fault_is : IsTokenFault bytes fault

-- ---- answers

-- the bytes that are sent for an answer: its message, or the token that holds it in the envelope of the request
abbrev pub IsSent : Option Envelope → Answer → List ℕ → Type 0
IsSent None answer bytes = bytes ≡ bytes_of answer
IsSent (Some envelope) answer bytes = WritesAnswer envelope.wrapping envelope.mechanism answer bytes

-- that token would be too long
abbrev pub IsSentTooLong : Option Envelope → Answer → Type 0
IsSentTooLong None answer = ⊥
IsSentTooLong (Some envelope) answer = limit < answer_size envelope.wrapping envelope.mechanism (length (bytes_of answer))

-- the text is what is sent, in hexadecimal
pub record TellsAnswer (envelope : Option Envelope) (answer : Answer) (text : List ℕ) : Type 0 where
  pub bytes : List ℕ
  pub sent : IsSent envelope answer bytes
  pub text_is : text ≡ encode_lower bytes
