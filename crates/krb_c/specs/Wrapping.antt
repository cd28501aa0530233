-- What is written for a request, and for the answer to it, in a token of GSS-API.
use Rattle.std.specs.Prelude.{◌≡◌, ◌<◌, ◌≤◌, ℕ, List, None, length}
use Rattle.krb_der.specs.Spells.{limit}
use Rattle.krb_gss.specs.Token.{IsToken}
use Rattle.krb_gss.specs.Wrapping.{WritesRequest, written_size}
use Rattle.krb_gss.specs.Answer.{IsAnswer, Message, WritesAnswer, WritesLater, answer_size, later_size, bytes_of, error, reply}
use Rattle.krb_gss.specs.declared.mechanism.Mechanism.{Mechanism}
use Rattle.krb_gss.specs.declared.opening.Wrapping.{Wrapping}
use Rattle.krb_c.specs.Answer.{plain}
use Rattle.krb_c.specs.Codes.{bad_mechanism, out_of_memory, too_long}
use Rattle.krb_c.specs.Tokens.{later_of, wrapped_of}
use Rattle.krb_c.specs.declared.structs.Answer.{Answer}
use Rattle.krb_c.specs.declared.structs.Wrapped.{Wrapped}

-- the numbers stand for no wrapping
abbrev pub IsNoWrapping : Wrapped → Type 0
IsNoWrapping wrapped = (wrapping : Wrapping) (mechanism : Mechanism) → wrapped ≡ wrapped_of wrapping mechanism → ⊥

-- the token is the one that is written for the request
pub record WrapsRequest (wrapped : Wrapped) (request token : List ℕ) : Type 0 where
  pub wrapping : Wrapping
  pub mechanism : Mechanism
  pub wrapped_is : wrapped ≡ wrapped_of wrapping mechanism
  pub is_token : IsToken wrapping mechanism request token
  pub written : WritesRequest wrapping mechanism request token

-- the token is the one that is written for the answer, to the first token of a client or to a later one
pub data WrapsAnswer (wrapped : Wrapped) (message : Message) (token : List ℕ) : Type 0 where
  first_answer : (wrapping : Wrapping) (mechanism : Mechanism) → wrapped ≡ wrapped_of wrapping mechanism
      → IsAnswer wrapping mechanism message token → WritesAnswer wrapping mechanism message token → WrapsAnswer wrapped message token
  later_answer : (mechanism : Mechanism) → wrapped ≡ later_of mechanism → WritesLater mechanism message token → WrapsAnswer wrapped message token

-- why there is no token of this size
pub data IsSizeFault (size : ℕ) (answer : Answer) : Type 0 where
  longer : limit < size → answer ≡ plain too_long → IsSizeFault size answer
  no_memory : size ≤ limit → answer ≡ plain out_of_memory → IsSizeFault size answer

-- why there is none for a request
pub data IsRequestFault (wrapped : Wrapped) (request : List ℕ) (answer : Answer) : Type 0 where
  no_wrapping : IsNoWrapping wrapped → answer ≡ plain bad_mechanism → IsRequestFault wrapped request answer
  request_size : (wrapping : Wrapping) (mechanism : Mechanism) → wrapped ≡ wrapped_of wrapping mechanism
      → IsSizeFault (written_size wrapping None mechanism (length request)) answer → IsRequestFault wrapped request answer

-- the numbers are none of a later token
abbrev pub IsNoLater : Wrapped → Type 0
IsNoLater wrapped = (mechanism : Mechanism) → wrapped ≡ later_of mechanism → ⊥

-- why there is none for an answer
pub data IsUnanswered (wrapped : Wrapped) (message : Message) (answer : Answer) : Type 0 where
  no_place : IsNoWrapping wrapped → IsNoLater wrapped → answer ≡ plain bad_mechanism → IsUnanswered wrapped message answer
  first_size : (wrapping : Wrapping) (mechanism : Mechanism) → wrapped ≡ wrapped_of wrapping mechanism
      → IsSizeFault (answer_size wrapping mechanism (length (bytes_of message))) answer → IsUnanswered wrapped message answer
  later_too : (mechanism : Mechanism) → wrapped ≡ later_of mechanism → IsSizeFault (later_size mechanism (length (bytes_of message))) answer
      → IsUnanswered wrapped message answer

-- a message of either kind
abbrev pub as_reply : List ℕ → Message
as_reply bytes = reply bytes

abbrev pub as_error : List ℕ → Message
as_error bytes = error bytes
