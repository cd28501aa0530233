-- What a call answers that opens the first token of a client: what it holds, exactly where the bytes are one.
use Rattle.std.specs.Prelude.{◌≡◌, List, ℕ, Result, IfOk, IsOkAnd}
use Rattle.krb_gss.specs.declared.fault.TokenFault.{TokenFault}
use Rattle.krb_gss.specs.declared.mechanism.Mechanism.{Mechanism}
use Rattle.krb_gss.specs.declared.opening.Wrapping.{Wrapping}
use Rattle.krb_gss.specs.declared.opening.Opened.{Opened}
use Rattle.krb_gss.specs.Token.{IsToken}

-- the bytes are a token that holds what is answered
abbrev pub FindsToken : Result Opened TokenFault → List ℕ → Type 0
FindsToken result bytes = IfOk result (λ o. IsToken o.wrapping o.mechanism o.request.now bytes)

-- the call answers what is in it
pub record Holds (o : Opened) (wrapping : Wrapping) (mechanism : Mechanism) (request : List ℕ) : Type 0 where
  pub wrapping_is : o.wrapping ≡ wrapping
  pub mechanism_is : o.mechanism ≡ mechanism
  pub request_is : o.request.now ≡ request

-- each token is opened
abbrev pub OpensEach : Result Opened TokenFault → List ℕ → Type 0
OpensEach result bytes = (wrapping : Wrapping) (mechanism : Mechanism) (request : List ℕ)
    → IsToken wrapping mechanism request bytes → IsOkAnd result (λ o. Holds o wrapping mechanism request)
