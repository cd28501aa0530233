-- A service's answer in a negotiation that holds no token: a NegTokenResp with a negState (RFC 4178, section 4.2.2).
use Rattle.std.specs.Prelude.{◌≡◌, ℕ, ◌≤◌, List, [], ◌∷◌, length, Option, Some, None, Result, Ok}
use Rattle.krb_der.specs.Place.{Place, begin_at}
use Rattle.krb_der.specs.Spells.{limit}
use Rattle.krb_gss.specs.declared.mechanism.Mechanism.{Mechanism}
use Rattle.krb_gss.specs.declared.mechanism.Foreign.{Foreign}
use Rattle.krb_gss.specs.declared.verdict.Verdict.{Verdict}
use Rattle.krb_gss.specs.declared.verdict.Verdict.TheVariants.{Completed, Incomplete, Rejected}
use Rattle.krb_gss.specs.Mechanism.{named_of}
use Rattle.krb_der.specs.Parts.{PlacesOf}
use Rattle.krb_gss.specs.Module.{bare_response, bare_response_state, bare_response_mechanism}
use Rattle.krb_gss.specs.Token.{HoldsFields}

-- Where the content of its negState stands, and that of supportedMech, which may be left out. There is no responseToken.
abbrev pub of_said : Place → PlacesOf bare_response → Place × Option Place
of_said fields v = (bare_response_state v, bare_response_mechanism v)

-- which mechanism is named, if one is
abbrev pub named_if : Option Place → Option (Result Mechanism Foreign)
named_if None = None
named_if (Some oid) = Some (named_of oid.rest)

-- what a negState and a name say: accept-completed (0), accept-incomplete (1) or reject (2)
abbrev pub Means : Verdict → List ℕ → Option (Result Mechanism Foreign) → Type 0
Means (Completed None) state name = (state ≡ 0 ∷ []) × (name ≡ None)
Means (Completed (Some first)) state name = (state ≡ 0 ∷ []) × (name ≡ Some (Ok first))
Means (Incomplete first) state name = (state ≡ 1 ∷ []) × (name ≡ Some (Ok first))
Means Rejected state name = state ≡ 2 ∷ []

-- the bytes are such an answer, and say this
pub record Says (verdict : Verdict) (bytes : List ℕ) : Type 0 where
  pub within : length bytes ≤ limit
  pub state : Place
  pub name : Option Place
  pub said : HoldsFields 0xa1 bare_response of_said (begin_at bytes) (state, name)
  pub means : Means verdict state.rest (named_if name)
