-- What is wrong with bytes that are no token: the rules, and the places where they are broken.
use Rattle.std.specs.Prelude.{◌≡◌, ◌≢◌, ℕ, ◌<◌, ◌≤◌, List, length, true, false, Option, Some, None, Ok, Err}
use Rattle.krb_der.specs.declared.fault.Fault.{Fault}
use Rattle.krb_der.specs.declared.fault.FaultKind.TheVariants.{TooLong}
use Rattle.krb_der.specs.Place.{Place, begin_at, begins}
use Rattle.krb_der.specs.Spells.{limit}
use Rattle.krb_der.specs.Parts.{Parts, Stand}
use Rattle.krb_der.specs.PartsFault.{PartsFault}
use Rattle.krb_gss.specs.declared.fault.TokenFault.{TokenFault}
use Rattle.krb_gss.specs.declared.fault.TokenFault.TheVariants.{Malformed, NotToken, Response, OtherMechanism, NoToken, TokenId, Unframed}
use Rattle.krb_gss.specs.declared.mechanism.Mechanism.{Mechanism}
use Rattle.krb_gss.specs.declared.mechanism.Foreign.{Foreign}
use Rattle.krb_gss.specs.declared.mechanism.Foreign.TheVariants.{Negotiation}
use Rattle.krb_gss.specs.declared.opening.Wrapping.{Wrapping}
use Rattle.krb_gss.specs.Mechanism.{named_of}
use Rattle.krb_gss.specs.Module.{initial_context_token, negotiation_token, neg_token_init}
use Rattle.krb_gss.specs.Token.{IsFramed, IsMessage, IsInit, IsWrapped}

-- Of two things, one after the other: a fault of the first, or one of the second, if the first is there.
pub data IsEither {V E : Type 0} (Is : V → Type 0) (IsFault : E → Type 0) (NextFault : V → E → Type 0) (fault : E) : Type 0 where
  of_first : IsFault fault → IsEither Is IsFault NextFault fault
  of_next : (v : V) → Is v → NextFault v fault → IsEither Is IsFault NextFault fault

-- a broken rule of DER, as what is wrong with a token
pub record IsMalformed (IsFault : Fault → Type 0) (fault : TokenFault) : Type 0 where
  pub broken : Fault
  pub is : IsFault broken
  pub fault_is : fault ≡ Malformed broken

-- the mechanism named here isn't Kerberos
pub record IsOther (oid : Place) (fault : TokenFault) : Type 0 where
  pub other : Foreign
  pub named : named_of oid.rest ≡ Err other
  pub fault_is : fault ≡ OtherMechanism other oid.at

-- of a token of Kerberos, up to its identifier
abbrev pub IsKerberosFault : Place → TokenFault → Type 0
IsKerberosFault here =
    IsEither (λ (x : Place × Place). IsFramed here x.0 x.1) (IsMalformed (PartsFault initial_context_token here)) (λ x. IsOther x.0)

-- no such message stands here
pub record IsNoMessage {M : Type 0} (Holds : M → Type 0) (here : Place) (fault : TokenFault) : Type 0 where
  pub none : (message : M) → Holds message → ⊥
  pub fault_is : fault ≡ TokenId here.at

-- of a negotiation's message with these fields
abbrev pub HoldsFieldsFault : ℕ → Parts → Place → Fault → Type 0
HoldsFieldsFault tag ps here =
    IsEither (λ fields. Stand (negotiation_token tag) fields here) (PartsFault (negotiation_token tag) here) (PartsFault ps)

-- of a NegTokenInit
abbrev pub IsInitFault : Place → Fault → Type 0
IsInitFault = HoldsFieldsFault 0xa0 neg_token_init

-- of what must be a token of Kerberos: a message AP-REQ (its tag is 0x6e) without a frame has a fault of its own
pub data IsHeldFault (here : Place) (fault : TokenFault) : Type 0 where
  unframed : begins 0x6e here.rest ≡ true → fault ≡ Unframed here.at → IsHeldFault here fault
  of_kerberos : begins 0x6e here.rest ≡ false → IsKerberosFault here fault → IsHeldFault here fault

-- of the token of a negotiation, whose mechanism's name stands at a place
abbrev pub HoldsKerberosFault : Place → Option Place → TokenFault → Type 0
HoldsKerberosFault oid None fault = fault ≡ NoToken oid.at
HoldsKerberosFault oid (Some here) fault = IsHeldFault here fault

-- of that name and token
abbrev pub AreKerberosFault : Place → Option Place → TokenFault → Type 0
AreKerberosFault oid token = IsEither (λ first. named_of oid.rest ≡ Ok first) (IsOther oid) (λ first. HoldsKerberosFault oid token)

-- of a negotiation's message
abbrev pub IsNegotiatedFault : (Place → Option Place → Type 0) → (Fault → Type 0) → TokenFault → Type 0
IsNegotiatedFault Is IsFault = IsEither (λ (x : Place × Option Place). Is x.0 x.1) (IsMalformed IsFault) (λ x. AreKerberosFault x.0 x.1)

-- of what is in a token whose mechanism has this name
pub data IsWithinFault (oid after : Place) (fault : TokenFault) : Type 0 where
  within_mechanism : named_of oid.rest ≢ Err Negotiation → IsOther oid fault → IsWithinFault oid after fault
  within_negotiation : named_of oid.rest ≡ Err Negotiation → IsNegotiatedFault (IsInit after) (IsInitFault after) fault
      → IsWithinFault oid after fault

-- the first byte is that of a negotiation's answer, of a request, or of no token
pub data IsBeginFault (bytes : List ℕ) (fault : TokenFault) : Type 0 where
  response : begins 0xa1 bytes ≡ true → fault ≡ Response → IsBeginFault bytes fault
  request : begins 0x6e bytes ≡ true → fault ≡ Unframed 0 → IsBeginFault bytes fault
  not_token : begins 0xa1 bytes ≡ false → begins 0x6e bytes ≡ false → begins 0x60 bytes ≡ false → fault ≡ NotToken → IsBeginFault bytes fault

-- of a token, up to its identifier
abbrev pub IsFramedFault : Place → TokenFault → Type 0
IsFramedFault here =
    IsEither (λ (x : Place × Place). IsFramed here x.0 x.1) (IsMalformed (PartsFault initial_context_token here)) (λ x. IsWithinFault x.0 x.1)

abbrev pub IsWrappedFault : Place → TokenFault → Type 0
IsWrappedFault here = IsEither (λ (x : Unit {0}). begins 0x60 here.rest ≡ true) (IsBeginFault here.rest) (λ x. IsFramedFault here)

-- the bytes are more than a token has
pub record IsTooLong (bytes : List ℕ) (fault : TokenFault) : Type 0 where
  pub more : limit < length bytes
  pub fault_is : fault ≡ Malformed (record { kind = TooLong; at = 0 })

-- of bytes that must be a token of such a form, and hold such a message
pub data IsWholeFault {X : Type 0} (Is : Place → X → Place → Type 0) (IsFault NoMessage : Place → TokenFault → Type 0) (bytes : List ℕ) (fault : TokenFault) : Type 0 where
  too_long : IsTooLong bytes fault → IsWholeFault Is IsFault NoMessage bytes fault
  of_wrapping : length bytes ≤ limit → IsFault (begin_at bytes) fault → IsWholeFault Is IsFault NoMessage bytes fault
  of_message : (x : X) (inner : Place) → length bytes ≤ limit → Is (begin_at bytes) x inner → NoMessage inner fault
      → IsWholeFault Is IsFault NoMessage bytes fault

-- of the first token of a client
abbrev pub IsTokenFault : List ℕ → TokenFault → Type 0
IsTokenFault =
    IsWholeFault (λ here (x : Wrapping × Mechanism) inner. IsWrapped here x.0 x.1 inner) IsWrappedFault (λ inner. IsNoMessage (IsMessage 0x01 inner) inner)
