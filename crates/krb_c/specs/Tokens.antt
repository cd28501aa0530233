-- Tokens of GSS-API: what a client's first token holds.
use Rattle.std.specs.Prelude.{◌≡◌, ◌⊎◌, ℕ, List}
use Rattle.krb_gss.specs.Fault.{IsTokenFault}
use Rattle.krb_gss.specs.Token.{IsToken}
use Rattle.krb_gss.specs.declared.fault.TokenFault.{TokenFault}
use Rattle.krb_gss.specs.declared.fault.TokenFault.TheVariants.{Malformed, NotToken, Response, OtherMechanism, NoToken, TokenId, Unframed, Ended}
use Rattle.krb_gss.specs.declared.mechanism.Foreign.{Foreign}
use Rattle.krb_gss.specs.declared.mechanism.Foreign.TheVariants.{Negotiation, Ntlm, IaKerb, Unknown}
use Rattle.krb_gss.specs.declared.mechanism.Mechanism.{Mechanism}
use Rattle.krb_gss.specs.declared.mechanism.Mechanism.TheVariants.{Kerberos, Microsoft, Draft}
use Rattle.krb_gss.specs.declared.opening.Wrapping.{Wrapping}
use Rattle.krb_gss.specs.declared.opening.Wrapping.TheVariants.{Bare, Negotiated}
use Rattle.krb_c.specs.Answer.{Hands, placed, plain}
use Rattle.krb_c.specs.Codes.{iakerb, negotiation_over, nested_negotiation, not_a_token, ntlm, other_mechanism, token_continues, token_empty, token_id, token_malformed, token_unframed}
use Rattle.krb_c.specs.declared.structs.Answer.{Answer}
use Rattle.krb_c.specs.declared.structs.Wrapped.{Wrapped}

-- the names of Kerberos as numbers; 0 is none
abbrev pub mechanism_number : Mechanism → ℕ
mechanism_number Kerberos = 1
mechanism_number Microsoft = 2
mechanism_number Draft = 3

abbrev pub negotiated_number : Wrapping → ℕ
negotiated_number Bare = 0
negotiated_number (Negotiated mechanism) = mechanism_number mechanism

abbrev pub wrapped_of : Wrapping → Mechanism → Wrapped
wrapped_of wrapping mechanism = record { mechanism = mechanism_number mechanism; negotiated = negotiated_number wrapping }

-- how a later token of a negotiation is wrapped, whose mechanism an earlier answer named
abbrev pub later_of : Mechanism → Wrapped
later_of mechanism = record { mechanism = mechanism_number mechanism; negotiated = 100 }

-- another mechanism
abbrev pub foreign_code : Foreign → ℕ
foreign_code Negotiation = nested_negotiation
foreign_code Ntlm = ntlm
foreign_code IaKerb = iakerb
foreign_code Unknown = other_mechanism

-- why bytes are no token, with the offset of the fault if it has one
abbrev pub token_answer : TokenFault → Answer
token_answer (Malformed fault) = placed token_malformed fault.at
token_answer NotToken = plain not_a_token
token_answer Response = plain token_continues
token_answer (OtherMechanism foreign at) = placed (foreign_code foreign) at
token_answer (NoToken at) = placed token_empty at
token_answer (TokenId at) = placed token_id at
token_answer (Unframed at) = placed token_unframed at
token_answer Ended = plain negotiation_over

-- the bytes are a token, and its request and how it is wrapped are returned
pub record HandsRequest (bytes : List ℕ) (is : Wrapped) (old new : List ℕ) (answer : Answer) : Type 0 where
  pub wrapping : Wrapping
  pub mechanism : Mechanism
  pub request : List ℕ
  pub is_token : IsToken wrapping mechanism request bytes
  pub wrapped_is : is ≡ wrapped_of wrapping mechanism
  pub hands : Hands request old new answer

-- they are none, and the first fault is reported
pub record HasTokenFault (bytes : List ℕ) (answer : Answer) : Type 0 where
  pub fault : TokenFault
  pub is_fault : IsTokenFault bytes fault
  pub answer_is : answer ≡ token_answer fault

abbrev pub OpensToken : List ℕ → Wrapped → Wrapped → List ℕ → List ℕ → Answer → Type 0
OpensToken bytes was is old new answer =
    HandsRequest bytes is old new answer ⊎ (HasTokenFault bytes answer × ((is ≡ was) × (new ≡ old)))
