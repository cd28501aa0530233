-- The service's side of a negotiation: which tokens of a client it takes, one after another (RFC 4178, sections 3.2 and 4.2).
use Rattle.std.specs.Prelude.{◌≡◌, ℕ, ◌≤◌, List, length, Some, None, Result, Ok, Err}
use Rattle.krb_der.specs.Place.{Place, begin_at}
use Rattle.krb_der.specs.Spells.{limit}
use Rattle.krb_gss.specs.declared.fault.TokenFault.{TokenFault}
use Rattle.krb_gss.specs.declared.fault.TokenFault.TheVariants.{Ended as Over}
use Rattle.krb_gss.specs.declared.mechanism.Mechanism.{Mechanism}
use Rattle.krb_gss.specs.declared.mechanism.Foreign.TheVariants as foreign
use Rattle.krb_gss.specs.declared.opening.Wrapping.{Wrapping}
use Rattle.krb_gss.specs.declared.opening.Wrapping.TheVariants.{Bare}
use Rattle.krb_gss.specs.declared.negotiating.Negotiation.{Negotiation}
use Rattle.krb_gss.specs.declared.negotiating.Negotiation.TheVariants.{Begun, Asked, Ended}
use Rattle.krb_gss.specs.declared.negotiating.Taken.{Taken}
use Rattle.krb_gss.specs.declared.negotiating.Taken.TheVariants.{First, Asks, Later}
use Rattle.krb_gss.specs.Mechanism.{named_of}
use Rattle.krb_gss.specs.Token.{IsFramed, IsInit, IsToken}
use Rattle.krb_gss.specs.Fault.{IsTokenFault}
use Rattle.krb_gss.specs.Later.{IsLaterToken, IsLaterFault}

-- the bytes begin a negotiation that names Kerberos first, by this name, and hold no token
pub record IsAsking (first : Mechanism) (bytes : List ℕ) : Type 0 where
  pub within : length bytes ≤ limit
  pub name : Place
  pub after : Place
  pub oid : Place
  pub framed : IsFramed (begin_at bytes) name after
  pub negotiation : named_of name.rest ≡ Err foreign.Negotiation
  pub init : IsInit after oid None
  pub named : named_of oid.rest ≡ Ok first

-- the bytes begin no negotiation that this side takes, and this is their fault
pub record IsNoBeginning (bytes : List ℕ) (fault : TokenFault) : Type 0 where
  pub no_token : (wrapping : Wrapping) (mechanism : Mechanism) (request : List ℕ) → IsToken wrapping mechanism request bytes → ⊥
  pub not_asking : (first : Mechanism) → IsAsking first bytes → ⊥
  pub is_fault : IsTokenFault bytes fault

-- the bytes don't go on with one, and this is their fault
pub record IsNoLater (bytes : List ℕ) (fault : TokenFault) : Type 0 where
  pub no_token : (mechanism : Mechanism) (request : List ℕ) → IsLaterToken mechanism request bytes → ⊥
  pub is_fault : IsLaterFault bytes fault

-- What a negotiation does with a token of the client, and what it is afterwards. It has at most two rounds: the second token holds the
-- request, or ends the negotiation.
abbrev pub Takes : List ℕ → Negotiation → Result Taken TokenFault → Negotiation → Type 0
Takes bytes Begun (Ok (First o)) new = IsToken o.wrapping o.mechanism o.request.now bytes × (new ≡ Ended)
Takes bytes Begun (Ok (Asks first)) new = IsAsking first bytes × (new ≡ Asked first)
Takes bytes Begun (Ok (Later l)) new = ⊥
Takes bytes Begun (Err fault) new = IsNoBeginning bytes fault × (new ≡ Ended)
Takes bytes (Asked first) (Ok (First o)) new = ⊥
Takes bytes (Asked first) (Ok (Asks other)) new = ⊥
Takes bytes (Asked first) (Ok (Later l)) new = IsLaterToken l.mechanism l.request.now bytes × (new ≡ Ended)
Takes bytes (Asked first) (Err fault) new = IsNoLater bytes fault × (new ≡ Ended)
Takes bytes Ended (Ok taken) new = ⊥
Takes bytes Ended (Err fault) new = (fault ≡ Over) × (new ≡ Ended)

-- The mechToken stands at a place in the bytes; alone it is a token of Kerberos that holds this request, by the same name.
pub record IsAlone (mechanism : Mechanism) (request bytes : List ℕ) : Type 0 where
  pub name : Place
  pub after : Place
  pub oid : Place
  pub here : Place
  pub framed : IsFramed (begin_at bytes) name after
  pub init : IsInit after oid (Some here)
  pub alone : IsToken Bare mechanism request here.rest
