-- What is written of tokens.
use Rattle.std.specs.Prelude.{◌≡◌, ℕ, List, [], length, Option, Some, None}
use Rattle.krb_gss.specs.declared.mechanism.Mechanism.{Mechanism}
use Rattle.krb_gss.specs.declared.putting.Token.{Token}
use Rattle.krb_gss.specs.Wrapping.{IsTokenField, token_field_size}

-- the bytes are what is said of a token's identifier, mechanism and message
abbrev pub of_token : (ℕ → Mechanism → List ℕ → List ℕ → Type 0) → Token → List ℕ → Type 0
of_token Is token = Is token.message.id token.mechanism token.message.bytes.now

-- the field that holds a token, if there is one, and how long it is
abbrev pub HasToken : Option Token → List ℕ → Type 0
HasToken None bytes = bytes ≡ []
HasToken (Some token) bytes = of_token IsTokenField token bytes

abbrev pub held_size : Option Token → ℕ
held_size None = 0
held_size (Some token) = token_field_size token.mechanism (length token.message.bytes.now)
