-- What a service is made with, and what comes of it.
use Rattle.std.specs.Prelude.{◌≡◌, ◌==◌, ◌/◌, max, if◌then◌else◌, ◌≢◌, ◌≤◌, ◌<◌, ◌≤ℤ◌, ◌*◌, ◌⊎◌, ℕ, ℤ, pos, Bool, true, false, IsTrue, List, [], Option, Some, None, IsSomeAnd}
use Rattle.krb_login.specs.declared.terms.Realms.{Realms}
use Rattle.krb_login.specs.declared.terms.Realms.TheVariants.{Any, Only}
use Rattle.krb_login.specs.declared.terms.Terms.{Terms}
use Rattle.krb_keytab.specs.Entry.{KeytabEntry}
use Rattle.krb_c.specs.Service.{IsMomentOf, Stands, fresh}
use Rattle.krb_c.specs.Answer.{plain}
use Rattle.krb_c.specs.Request.{IsMomentFault, moment_of}
use Rattle.krb_c.specs.Bindings.{AreBindings, AreNoBindings, HasBindings}
use Rattle.krb_c.specs.Codes.{bad_bindings, bad_options, bad_skew, early_start, key_type, no_name, no_start, ok, out_of_memory}
use Rattle.krb_c.specs.KeytabFile.{HasKeytab}
use Rattle.krb_c.specs.Sizes.{options_size}
use Rattle.krb_c.specs.Renewal.{IsNamed, IsServed, IsUnusable}
use Rattle.krb_c.specs.declared.structs.AcceptorOptions.{AcceptorOptions}
use Rattle.krb_c.specs.declared.structs.Answer.{Answer}
use Rattle.krb_c.specs.declared.service_state.ServiceState.{ServiceState}

-- How repeats are refused across starts: the service was started at a moment; or it is in its first
-- life, since no service has used one of these keys before; or it shares a store of stamps, and its
-- start is the moment from which the store remembers.
abbrev pub started : ℕ
started = 1

abbrev pub first_life : ℕ
first_life = 2

abbrev pub sharing : ℕ
sharing = 3

abbrev pub HasStart : AcceptorOptions → Type 0
HasStart options = (options.restarts ≡ started) ⊎ (options.restarts ≡ sharing)

abbrev pub shares : AcceptorOptions → Bool
shares options = options.restarts == sharing

-- the first second of the year 2020
abbrev pub year_2020 : ℤ
year_2020 = pos 1_577_836_800

-- the most requests that are remembered: a million if the options don't say
abbrev pub limit_of : AcceptorOptions → ℕ
limit_of options = if options.limit == 0 then 1_000_000 else options.limit

-- the most of one client: a tenth of the limit, but at least one, if the options don't say
abbrev pub client_limit_of : AcceptorOptions → ℕ
client_limit_of options = if options.limit_for_client == 0 then max (limit_of options / 10) 1 else options.limit_for_client

-- the start isn't before that year, or any start is meant
abbrev pub IsLateEnough : AcceptorOptions → Type 0
IsLateEnough options = (year_2020 ≤ℤ options.started.seconds) ⊎ IsTrue options.any_start

-- the moment of the start, if there is one
abbrev pub IsStart : AcceptorOptions → Option ℤ → Type 0
IsStart options None = options.restarts ≡ first_life
IsStart options (Some at) =
    HasStart options × (IsMomentOf options.started × (IsLateEnough options × (at ≡ moment_of options.started)))

-- the options say none of these, or a start that isn't a moment or is too early
abbrev pub IsStartFault : AcceptorOptions → Answer → Type 0
IsStartFault options answer =
    (((¬ HasStart options) × (options.restarts ≢ first_life)) × (answer ≡ plain no_start))
    ⊎ (HasStart options × (IsMomentFault options.started answer
    ⊎ (IsMomentOf options.started × ((¬ IsLateEnough options) × (answer ≡ plain early_start)))))

-- the options are valid for a service of this name's text, and say this start
pub record IsValid (options : AcceptorOptions) (text : List ℕ) (start : Option ℤ) : Type 0 where
  pub size : options.size ≡ options_size
  pub named : IsNamed options.any_name text
  pub start_is : IsStart options start
  pub skew : options.skew ≤ 86_400

-- they are invalid: the first fault that holds
abbrev pub IsInvalid : AcceptorOptions → List ℕ → Answer → Type 0
IsInvalid options text answer =
    ((options.size ≢ options_size) × (answer ≡ plain bad_options))
    ⊎ ((options.size ≡ options_size) × (((¬ IsNamed options.any_name text) × (answer ≡ plain no_name))
    ⊎ (IsNamed options.any_name text × (IsStartFault options answer
    ⊎ (((start : Option ℤ) × IsStart options start) × ((86_400 < options.skew) × (answer ≡ plain bad_skew)))))))

-- ---- the terms
-- of any realm, or of those that are added, and none is yet
abbrev pub AreRealms : Bool → Realms → Type 0
AreRealms only Any = only ≡ false
AreRealms only (Only realms) = (only ≡ true) × (realms.items ≡ [])

-- the type of a subkey, or 0 for none
abbrev pub IsSubkeyType : ℕ → Type 0
IsSubkeyType etype = (etype ≡ 0) ⊎ ((etype ≡ 19) ⊎ (etype ≡ 20))

pub record AreTerms (options : AcceptorOptions) (terms : Terms) : Type 0 where
  pub anonymous : terms.anonymous ≡ options.anonymous
  pub realms : AreRealms options.only_realms terms.realms
  pub bindings : AreBindings options.bindings options.bindings_hash terms.bindings
  pub subkey : IsSubkeyType options.subkey_type

-- why there are none: the first that holds
abbrev pub IsTermsFault : AcceptorOptions → Answer → Type 0
IsTermsFault options answer =
    (AreNoBindings options.bindings options.bindings_hash × (answer ≡ plain bad_bindings))
    ⊎ (HasBindings options.bindings options.bindings_hash × ((¬ IsSubkeyType options.subkey_type) × (answer ≡ plain key_type)))

abbrev pub HasTerms : AcceptorOptions → Type 0
HasTerms options = (terms : Terms) × AreTerms options terms

-- ---- a service
-- The options are valid, the bytes are a keytab, and the service is new: it decides by the entries of
-- the name that is served, with the skew, the start and the terms of the options.
pub record IsMade (options : AcceptorOptions) (text bytes : List ℕ) (state : ServiceState) : Type 0 where
  pub start : Option ℤ
  pub valid : IsValid options text start
  pub terms : Terms
  pub terms_are : AreTerms options terms
  pub kept : List KeytabEntry
  pub is_served : IsServed text bytes kept
  pub state_is : state ≡ fresh kept (1_000_000 * options.skew) start (limit_of options) (client_limit_of options) terms options.subkey_type (shares options)
  pub stands : Stands state []

-- none is made: the options are invalid, or else their terms, or else no keytab is read or the text
-- isn't a name, or else memory is lacking
abbrev pub IsUnmade : AcceptorOptions → List ℕ → List ℕ → Answer → Type 0
IsUnmade options text bytes answer =
    IsInvalid options text answer
    ⊎ (((start : Option ℤ) × IsValid options text start) × (IsTermsFault options answer
    ⊎ (HasTerms options × (IsUnusable text bytes answer
    ⊎ (HasKeytab bytes × (answer ≡ plain out_of_memory))))))

-- a service is made and kept; or the reason is reported, and what was kept is unchanged
abbrev pub Makes : AcceptorOptions → List ℕ → List ℕ → Option ServiceState → Option ServiceState → Answer → Type 0
Makes options text bytes was is answer =
    ((answer ≡ plain ok) × IsSomeAnd is (IsMade options text bytes)) ⊎ (IsUnmade options text bytes answer × (is ≡ was))
