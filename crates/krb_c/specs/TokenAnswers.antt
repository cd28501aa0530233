-- What a service's answer to a client's first token of GSS-API holds.
use Rattle.std.specs.Prelude.{◌≡◌, ◌⊎◌, Bool, true, false, List, ℕ}
use Rattle.krb_gss.specs.Answer.{IsAnswer, Message, bytes_of, error, reply}
use Rattle.krb_gss.specs.Answered.{IsAnswerFault}
use Rattle.krb_gss.specs.declared.fault.TokenFault.{TokenFault}
use Rattle.krb_gss.specs.declared.mechanism.Mechanism.{Mechanism}
use Rattle.krb_gss.specs.declared.opening.Wrapping.{Wrapping}
use Rattle.krb_c.specs.Answer.{Hands}
use Rattle.krb_c.specs.Tokens.{token_answer}
use Rattle.krb_c.specs.declared.structs.Answer.{Answer}

abbrev pub says_error : Message → Bool
says_error (reply bytes) = false
says_error (error bytes) = true

-- the bytes are an answer, and its message and the message's kind are returned
pub record HandsMessage (bytes : List ℕ) (is : Bool) (old new : List ℕ) (answer : Answer) : Type 0 where
  pub wrapping : Wrapping
  pub mechanism : Mechanism
  pub message : Message
  pub is_answer : IsAnswer wrapping mechanism message bytes
  pub kind_is : is ≡ says_error message
  pub hands : Hands (bytes_of message) old new answer

-- they are none, and the first fault is reported
pub record HasAnswerFault (bytes : List ℕ) (answer : Answer) : Type 0 where
  pub fault : TokenFault
  pub is_fault : IsAnswerFault bytes fault
  pub answer_is : answer ≡ token_answer fault

abbrev pub OpensAnswer : List ℕ → Bool → Bool → List ℕ → List ℕ → Answer → Type 0
OpensAnswer bytes was is old new answer =
    HandsMessage bytes is old new answer ⊎ (HasAnswerFault bytes answer × ((is ≡ was) × (new ≡ old)))
