-- What a call answers that opens a service's answer: what it holds, exactly where the bytes are one; and what is wrong with others.
use Rattle.std.specs.Prelude.{◌≡◌, ℕ, List, true, false, Result, IfOk, IsOkAnd}
use Rattle.krb_der.specs.declared.fault.Fault.{Fault}
use Rattle.krb_der.specs.Place.{Place, begins}
use Rattle.krb_gss.specs.declared.fault.TokenFault.{TokenFault}
use Rattle.krb_gss.specs.declared.fault.TokenFault.TheVariants.{NotToken}
use Rattle.krb_gss.specs.declared.mechanism.Mechanism.{Mechanism}
use Rattle.krb_gss.specs.declared.opening.Wrapping.{Wrapping}
use Rattle.krb_gss.specs.declared.answered.Answered.{Answered}
use Rattle.krb_gss.specs.Module.{first_response}
use Rattle.krb_gss.specs.Fault.{HoldsFieldsFault, IsNoMessage, IsKerberosFault, IsNegotiatedFault, IsWholeFault}
use Rattle.krb_gss.specs.Answer.{Message, message_of, IsResponse, IsWrappedAnswer, Stands, IsAnswer}

-- the bytes are an answer that holds what is answered
abbrev pub FindsAnswer : Result Answered TokenFault → List ℕ → Type 0
FindsAnswer result bytes = IfOk result (λ a. IsAnswer a.wrapping a.mechanism (message_of a.answer) bytes)

-- the call answers what is in it
pub record Gives (a : Answered) (wrapping : Wrapping) (mechanism : Mechanism) (message : Message) : Type 0 where
  pub wrapping_is : a.wrapping ≡ wrapping
  pub mechanism_is : a.mechanism ≡ mechanism
  pub message_is : message_of a.answer ≡ message

-- each answer is opened
abbrev pub OpensEachAnswer : Result Answered TokenFault → List ℕ → Type 0
OpensEachAnswer result bytes = (wrapping : Wrapping) (mechanism : Mechanism) (message : Message)
    → IsAnswer wrapping mechanism message bytes → IsOkAnd result (λ a. Gives a wrapping mechanism message)

-- ---- faults

-- of a NegTokenResp
abbrev pub IsResponseFault : Place → Fault → Type 0
IsResponseFault = HoldsFieldsFault 0xa1 first_response

-- of an answer in its wrapping, up to its identifier
pub data IsWrappedAnswerFault (here : Place) (fault : TokenFault) : Type 0 where
  not_answer : begins 0xa1 here.rest ≡ false → begins 0x60 here.rest ≡ false → fault ≡ NotToken → IsWrappedAnswerFault here fault
  answer_plain : begins 0x60 here.rest ≡ true → IsKerberosFault here fault → IsWrappedAnswerFault here fault
  answer_negotiated : begins 0xa1 here.rest ≡ true → IsNegotiatedFault (IsResponse here) (IsResponseFault here) fault
      → IsWrappedAnswerFault here fault

-- of a service's answer
abbrev pub IsAnswerFault : List ℕ → TokenFault → Type 0
IsAnswerFault =
    IsWholeFault (λ here (x : Wrapping × Mechanism) inner. IsWrappedAnswer here x.0 x.1 inner) IsWrappedAnswerFault (λ inner. IsNoMessage (Stands inner) inner)
