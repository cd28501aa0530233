-- Tokens of mechanisms (RFC 2743, section 3.1), Kerberos's (RFC 4121, section 4.1) and those of a negotiation (RFC 4178, section 4.2).
use Rattle.std.specs.Prelude.{◌≡◌, ℕ, ◌≤◌, List, ◌∷◌, length, Option, Some, None, Ok, Err}
use Rattle.krb_der.specs.Place.{Place, begin_at}
use Rattle.krb_der.specs.Spells.{limit}
use Rattle.krb_der.specs.Parts.{Parts, PlacesOf, Stand}
use Rattle.krb_gss.specs.declared.mechanism.Mechanism.{Mechanism}
use Rattle.krb_gss.specs.declared.mechanism.Foreign.TheVariants.{Negotiation}
use Rattle.krb_gss.specs.declared.opening.Wrapping.{Wrapping}
use Rattle.krb_gss.specs.declared.opening.Wrapping.TheVariants.{Bare, Negotiated}
use Rattle.krb_gss.specs.Mechanism.{named_of}
use Rattle.krb_gss.specs.Module.{initial_context_token, negotiation_token, mech_type_list_first, neg_token_init, neg_token_init_mechanisms, neg_token_init_token}

-- InitialContextToken (RFC 2743, section 3.1): where the content of the mechanism's OBJECT IDENTIFIER stands, and the bytes after it
abbrev pub IsFramed : Place → Place → Place → Type 0
IsFramed here oid inner = Stand initial_context_token (oid, inner) here

-- a token's identifier, two bytes, and the message (RFC 4121, section 4.1)
abbrev pub IsMessage : ℕ → Place → List ℕ → Type 0
IsMessage id here message = here.rest ≡ id ∷ 0 ∷ message

-- a token of Kerberos, by one of its names: its identifier and the message stand inside
pub record IsKerberos (here : Place) (mechanism : Mechanism) (inner : Place) : Type 0 where
  pub oid : Place
  pub framed : IsFramed here oid inner
  pub named : named_of oid.rest ≡ Ok mechanism

-- NegotiationToken (RFC 4178, section 4.2), by the tag of its choice, with these fields: what is picked of where they stand
pub record HoldsFields {W : Type 0} (tag : ℕ) (ps : Parts) (pick : Place → PlacesOf ps → W) (here : Place) (picked : W) : Type 0 where
  pub fields : Place
  pub places : PlacesOf ps
  pub chosen : Stand (negotiation_token tag) fields here
  pub stand : Stand ps places fields
  pub picked_is : pick fields places ≡ picked

-- NegTokenInit: where the content of the first mechanism of mechTypes stands, and the mechToken; what is in the others isn't looked at
abbrev pub of_init : Place → PlacesOf neg_token_init → Place × Option Place
of_init fields v = (mech_type_list_first (neg_token_init_mechanisms v), neg_token_init_token v)

abbrev pub IsInit : Place → Place → Option Place → Type 0
IsInit here oid token = HoldsFields 0xa0 neg_token_init of_init here (oid, token)

-- the token is there, and one of Kerberos
abbrev pub HoldsKerberos : Option Place → Mechanism → Place → Type 0
HoldsKerberos None mechanism inner = ⊥
HoldsKerberos (Some here) mechanism inner = IsKerberos here mechanism inner

-- the mechanism of a name and a token is Kerberos, by this name, and the token is one of Kerberos
pub record AreKerberos (oid : Place) (token : Option Place) (first mechanism : Mechanism) (inner : Place) : Type 0 where
  pub named : named_of oid.rest ≡ Ok first
  pub is : HoldsKerberos token mechanism inner

-- a negotiation's message with such a name and token
pub record IsNegotiated (Is : Place → Option Place → Type 0) (first mechanism : Mechanism) (inner : Place) : Type 0 where
  pub oid : Place
  pub token : Option Place
  pub fields : Is oid token
  pub are : AreKerberos oid token first mechanism inner

-- In a token whose mechanism has this name, and what is after that: the identifier, where the name is one of Kerberos; or, where it is
-- SPNEGO, a negotiation, and where the identifier stands in its token.
abbrev pub IsWithin : Place → Place → Wrapping → Mechanism → Place → Type 0
IsWithin oid after Bare mechanism inner = (named_of oid.rest ≡ Ok mechanism) × (after ≡ inner)
IsWithin oid after (Negotiated first) mechanism inner = (named_of oid.rest ≡ Err Negotiation) × IsNegotiated (IsInit after) first mechanism inner

-- the first token of a client, in its wrapping
pub record IsWrapped (here : Place) (wrapping : Wrapping) (mechanism : Mechanism) (inner : Place) : Type 0 where
  pub oid : Place
  pub after : Place
  pub framed : IsFramed here oid after
  pub within : IsWithin oid after wrapping mechanism inner

-- the bytes are a token of such a form, and such a message stands at its identifier
pub record IsWhole {X : Type 0} (Is : Place → X → Place → Type 0) (Holds : Place → Type 0) (x : X) (bytes : List ℕ) : Type 0 where
  pub within : length bytes ≤ limit
  pub inner : Place
  pub wrapped : Is (begin_at bytes) x inner
  pub is : Holds inner

-- the bytes are the first token of a client, and hold this request
abbrev pub IsToken : Wrapping → Mechanism → List ℕ → List ℕ → Type 0
IsToken wrapping mechanism request =
    IsWhole (λ here (x : Wrapping × Mechanism) inner. IsWrapped here x.0 x.1 inner) (λ inner. IsMessage 0x01 inner request) (wrapping, mechanism)
