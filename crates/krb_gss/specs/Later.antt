-- The later message of a client in a negotiation: a NegTokenResp (RFC 4178, section 4.2.2) that holds a token of Kerberos; and what is
-- wrong with others.
use Rattle.std.specs.Prelude.{ℕ, List, Option}
use Rattle.krb_der.specs.Place.{Place}
use Rattle.krb_der.specs.Parts.{PlacesOf}
use Rattle.krb_gss.specs.declared.fault.TokenFault.{TokenFault}
use Rattle.krb_gss.specs.declared.mechanism.Mechanism.{Mechanism}
use Rattle.krb_gss.specs.Module.{later_response, later_response_token}
use Rattle.krb_gss.specs.Token.{IsMessage, HoldsFields, HoldsKerberos, IsWhole}
use Rattle.krb_gss.specs.Fault.{IsEither, IsMalformed, HoldsFieldsFault, HoldsKerberosFault, IsNoMessage, IsWholeFault}

-- Where its fields stand, and the responseToken. There is no supportedMech, which only a service sends.
abbrev pub of_later : Place → PlacesOf later_response → Place × Option Place
of_later fields v = (fields, later_response_token v)

-- the message, with a token of Kerberos; where its identifier stands
pub record IsGoingOn (here : Place) (mechanism : Mechanism) (inner : Place) : Type 0 where
  pub fields : Place
  pub token : Option Place
  pub are : HoldsFields 0xa1 later_response of_later here (fields, token)
  pub held : HoldsKerberos token mechanism inner

-- the bytes are such a message, and hold this request
abbrev pub IsLaterToken : Mechanism → List ℕ → List ℕ → Type 0
IsLaterToken mechanism request = IsWhole IsGoingOn (λ inner. IsMessage 0x01 inner request) mechanism

-- ---- faults
-- up to the identifier; the place of a missing token is that of the fields
abbrev pub IsGoingOnFault : Place → TokenFault → Type 0
IsGoingOnFault here =
    IsEither (λ (x : Place × Option Place). HoldsFields 0xa1 later_response of_later here x) (IsMalformed (HoldsFieldsFault 0xa1 later_response here))
    (λ x. HoldsKerberosFault x.0 x.1)

abbrev pub IsLaterFault : List ℕ → TokenFault → Type 0
IsLaterFault = IsWholeFault IsGoingOn IsGoingOnFault (λ inner. IsNoMessage (IsMessage 0x01 inner) inner)
