-- A client's first token that names another mechanism first, and Kerberos after it (RFC 4178, sections 4.1 and 4.2.1).
use Rattle.std.specs.Prelude.{◌≡◌, ℕ, ◌≤◌, List, length, Option, Ok, Err}
use Rattle.krb_der.specs.Fault.{HasHead}
use Rattle.krb_der.specs.Place.{Place, begin_at}
use Rattle.krb_der.specs.Spells.{limit}
use Rattle.krb_der.specs.Parts.{Parts, PlacesOf, anything, last, must, Stand}
use Rattle.krb_gss.specs.declared.mechanism.Mechanism.{Mechanism}
use Rattle.krb_gss.specs.declared.mechanism.Foreign.{Foreign}
use Rattle.krb_gss.specs.declared.mechanism.Foreign.TheVariants as foreign
use Rattle.krb_gss.specs.Mechanism.{named_of}
use Rattle.krb_gss.specs.Token.{IsFramed, HoldsFields, IsInit}

-- one name after another up to the end: the first of them that is one of Kerberos
pub data Names (mechanism : Mechanism) : Place → Type 0 where
  named_here : {here : Place} (oid after : Place) → HasHead 0x06 here oid after → named_of oid.rest ≡ Ok mechanism → Names mechanism here
  named_later : {here : Place} (oid after : Place) (other : Foreign) → HasHead 0x06 here oid after → named_of oid.rest ≡ Err other
      → Names mechanism after → Names mechanism here

-- mechTypes, the first field of a NegTokenInit: what is in it is the list, a MechTypeList with its tag and length
abbrev pub mech_types : Parts
mech_types = must 0xa0 anything anything

abbrev pub of_types : Place → PlacesOf mech_types → Place
of_types fields v = v.0

-- the names in a list
abbrev pub mech_type_names : Parts
mech_type_names = last 0x30 anything

-- The bytes are a token of SPNEGO with a NegTokenInit whose first mechanism isn't Kerberos: where the list stands, and where its names
-- do. A mechToken is for the first mechanism, so it isn't looked at.
pub record IsListed (list names : Place) (bytes : List ℕ) : Type 0 where
  pub within : length bytes ≤ limit
  pub name : Place
  pub after : Place
  pub oid : Place
  pub token : Option Place
  pub other : Foreign
  pub framed : IsFramed (begin_at bytes) name after
  pub negotiation : named_of name.rest ≡ Err foreign.Negotiation
  pub init : IsInit after oid token
  pub first_is : named_of oid.rest ≡ Err other
  pub types : HoldsFields 0xa0 mech_types of_types after list
  pub sequence : Stand mech_type_names names list

-- They name Kerberos after that, first by this name, and these are the bytes of the list: what a mechListMIC is over (RFC 4178, section 5).
pub record IsListing (mechanism : Mechanism) (list bytes : List ℕ) : Type 0 where
  pub types : Place
  pub names : Place
  pub listed : IsListed types names bytes
  pub list_is : types.rest ≡ list
  pub named : Names mechanism names
