-- What a service asks of a client beyond what makes its request acceptable.
use Rattle.std.specs.Prelude.{◌≡◌, ◌⊎◌, ◌<◌, ℕ, ℤ, false, List, [], ◌∷◌, Contains, codes, IsSomeAnd}
use Rattle.krb_der.specs.Flags.{HasBit}
use Rattle.krb_der.specs.Kind.{ValueOf, octets, leaf}
use Rattle.krb_msg.specs.Module.{typed}
use Rattle.krb_msg.specs.Fields.{type_of, bytes_of}
use Rattle.krb_gss.specs.Checksum.{Content, IsChecksum, checksum_type}
use Rattle.krb_ap.specs.ErrorCodes.{krb_err_generic}
use Rattle.krb_ap.specs.Taken.{Taken}
use Rattle.krb_login.specs.NoBindings.{none_sent}
use Rattle.krb_login.specs.declared.terms.Bindings.{Bindings}
use Rattle.krb_login.specs.declared.terms.Bindings.TheVariants.{Ignored, IfSent, Required}
use Rattle.krb_login.specs.declared.terms.Realms.{Realms}
use Rattle.krb_login.specs.declared.terms.Realms.TheVariants.{Any, Only}
use Rattle.krb_login.specs.declared.terms.Terms.{Terms}
use Rattle.krb_login.specs.declared.breach.Breach.{Breach}
use Rattle.krb_login.specs.declared.breach.Breach.TheVariants.{AnonymousClient, ForeignRealm, ChannelBindings}

-- A client is anonymous (RFC 8062, section 3) by its name, WELLKNOWN/ANONYMOUS in any realm, or by
-- the ticket's flag.
abbrev pub anonymous_name : List (List ℕ)
anonymous_name = codes "WELLKNOWN" ∷ codes "ANONYMOUS" ∷ []

abbrev pub anonymous_flag : ℕ
anonymous_flag = 16

abbrev pub IsAnonymous : Taken → Type 0
IsAnonymous taken = (taken.client.components ≡ anonymous_name) ⊎ HasBit taken.flags anonymous_flag

-- The realms whose clients are let in: any, or those of a list.
abbrev pub IsOfRealms : Realms → List ℕ → Type 0
IsOfRealms Any realm = Unit {0}
IsOfRealms (Only realms) realm = Contains realms.items realm

-- The authenticator's checksum is that of GSS-API (RFC 4121, section 4.1.1).
abbrev pub IsOfGss : ValueOf (typed (leaf octets)) → Type 0
IsOfGss checksum = type_of checksum ≡ checksum_type

abbrev pub SendsGss : Taken → Type 0
SendsGss taken = IsSomeAnd taken.checksum IsOfGss

-- and it can be read, and has these channel bindings (section 4.1.1.2)
pub record HasBindings (sent : List ℕ) (checksum : ValueOf (typed (leaf octets))) : Type 0 where
  pub kind : IsOfGss checksum
  pub content : Content
  pub reads : IsChecksum content (bytes_of checksum)
  pub bindings : content.bindings ≡ sent

abbrev pub Sends : Taken → List ℕ → Type 0
Sends taken sent = IsSomeAnd taken.checksum (HasBindings sent)

-- What a service wants of the bindings holds of what is known of a request. A client that sends a
-- checksum of GSS-API says with it which bindings it has: one that can't be read doesn't say that
-- there are none.
abbrev pub HasWanted : Bindings → Taken → Type 0
HasWanted Ignored taken = Unit {0}
HasWanted (IfSent wanted) taken = SendsGss taken → Sends taken none_sent ⊎ Sends taken wanted
HasWanted (Required wanted) taken = Sends taken wanted

-- Which of the terms what is known of a request breaks.
abbrev pub Breaks : Terms → Taken → Breach → Type 0
Breaks terms taken AnonymousClient = (terms.anonymous ≡ false) × IsAnonymous taken
Breaks terms taken ForeignRealm = IsOfRealms terms.realms taken.client.realm → ⊥
Breaks terms taken ChannelBindings = HasWanted terms.bindings taken → ⊥

-- The places of the breaches go on those of the causes for refusing a request (krb_ap's `Causes`).
abbrev pub place : Breach → ℕ
place AnonymousClient = 1_900
place ForeignRealm = 2_000
place ChannelBindings = 2_100

abbrev pub name_of : Breach → List ℕ
name_of AnonymousClient = codes "AnonymousClient"
name_of ForeignRealm = codes "ForeignRealm"
name_of ChannelBindings = codes "ChannelBindings"

-- RFC 4120 has no code for them: KRB_ERR_GENERIC
abbrev pub code_of : Breach → ℤ
code_of breach = krb_err_generic

abbrev pub Meets : Terms → Taken → Type 0
Meets terms taken = (breach : Breach) → Breaks terms taken breach → ⊥

pub record IsFirstBroken (terms : Terms) (taken : Taken) (breach : Breach) : Type 0 where
  pub broken : Breaks terms taken breach
  pub first : (other : Breach) → place other < place breach → Breaks terms taken other → ⊥
