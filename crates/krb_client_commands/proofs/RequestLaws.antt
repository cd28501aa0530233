-- What `request` prints: the request, or the token that holds it.
use Rattle.std.proofs.Common.{◌≡◌, ◌<◌, ◌≤◌, ◌∙◌, ℕ, ℤ, List, Option, Some, None, Ok, Err, length, refl, sym, subst, arith}
use Rattle.krb_ccache.specs.Value.{Cache}
use Rattle.krb_der.specs.Spells.{limit}
use Rattle.krb_gss.specs.Wrapping.{request_size}
use Rattle.krb_gss.specs.declared.opening.Wrapping.{Wrapping}
use Rattle.krb_name.specs.declared.principal.Principal.{Principal}
use Rattle.krb_ccache.specs.Format.{IsCache}
use Rattle.krb_ap.specs.Request.{Awaited, HasGoodTicket, IsRequest, Prevents}
use Rattle.krb_ap.specs.declared.request.RequestOptions.{RequestOptions}
use Rattle.krb_ap.specs.declared.request.RequestFault.{RequestFault}
use Rattle.krb_ap.specs.declared.request.RequestFault.TheVariants.{TooLong}
use Rattle.krb_client_commands.specs.Requesting.{IsAskedFor, IsPrintedFor, IsRequested, IsTokenOf, IsTokenTooLong, IsUnprinted, IsUnrequested, chosen_options, prevented, token_too_long}
use Rattle.krb_client_commands.specs.declared.fault.ClientFault.{ClientFault}
use Rattle.krb_client_commands.specs.declared.fault.ClientFault.TheVariants as of
use Rattle.krb_file_commands.proofs.FaultLaws.{no_ok, same_ok}
use Rattle.krb_file_commands.proofs.ReadingLaws.{CachesHaveOne}
use Rattle.krb_client_commands.specs.declared.request.Asked.{Asked}

some_is : (one other : Wrapping) → ◌≡◌ {A = Option Wrapping} (Some one) (Some other) → one ≡ other
some_is one other e = cc

none_is : (one : Wrapping) → ◌≡◌ {A = Option Wrapping} None (Some one) → ⊥
none_is one e = cc

-- the request that is asked for
abbrev pub IsOf : Cache → Asked → List ℕ → Type 0
IsOf cache asked request = IsRequested cache asked request

pub request_asked : (cache : Cache) (asked : Asked) (request : List ℕ) → asked.wrapping ≡ None → IsOf cache asked request
    → IsAskedFor cache asked request
request_asked cache asked request is requested = record {
  request = request;
  requested = requested;
  printed = subst (λ (w : Option Wrapping). IsPrintedFor w request request) (sym is) refl;
}

pub token_asked : (cache : Cache) (asked : Asked) (wrapping : Wrapping) (request bytes : List ℕ) → asked.wrapping ≡ Some wrapping
    → IsOf cache asked request → IsTokenOf wrapping request bytes → IsAskedFor cache asked bytes
token_asked cache asked wrapping request bytes is requested token = record {
  request = request;
  requested = requested;
  printed = subst (λ (w : Option Wrapping). IsPrintedFor w request bytes) (sym is) token;
}

pub longer_token : (cache : Cache) (asked : Asked) (wrapping : Wrapping) (request : List ℕ) (fault : RequestFault)
    → asked.wrapping ≡ Some wrapping → IsOf cache asked request
    → (fault ≡ TooLong) × (limit < request_size wrapping (length request)) → IsUnprinted cache asked fault
longer_token cache asked wrapping request fault is requested long =
    token_too_long (record { wrapping = wrapping; request = request; wrapping_is = is; requested = requested; longer = long.1 }) long.0

-- a request that was built has a ticket that was read
pub ticket_read : (cache : Cache) (asked : Asked) (request : List ℕ) → IsOf cache asked request → HasGoodTicket cache asked.service asked.at
ticket_read cache asked request requested = record {
  credential = requested.request.credential;
  used = requested.request.used;
  ticket = requested.request.built.ticket;
  ticket_is = requested.request.built.ticket_is;
}

-- that a request and what a client awaits are determined, and that a request isn't prevented
abbrev pub RequestsAreOne : Type 0
RequestsAreOne = (cache : Cache) (service : Principal) (at : ℤ) (confounder : List ℕ) (options : RequestOptions) (bytes others : List ℕ) (awaited other : Awaited)
    → IsRequest cache service at confounder options bytes awaited → IsRequest cache service at confounder options others other → (bytes ≡ others) × (awaited ≡ other)

abbrev pub RequestsArePrevented : Type 0
RequestsArePrevented = (cache : Cache) (service : Principal) (at : ℤ) (confounder : List ℕ) (options : RequestOptions) (bytes : List ℕ) (awaited : Awaited) (fault : RequestFault)
    → IsRequest cache service at confounder options bytes awaited → Prevents cache service at confounder options fault → ⊥

-- a token that was made isn't too long
pub token_fits : RequestsAreOne → (cache : Cache) (asked : Asked) (wrapping : Wrapping) (request : List ℕ) → asked.wrapping ≡ Some wrapping → IsOf cache asked request
    → request_size wrapping (length request) ≤ limit → IsTokenTooLong cache asked → ⊥
token_fits one cache asked wrapping request is requested fits long =
    let same = (one cache asked.service asked.at asked.confounder (chosen_options asked.wants_reply asked.wrapping) request long.request requested.awaited long.requested.awaited requested.request long.requested.request).0 in
    let one_wrapping : wrapping ≡ long.wrapping = some_is wrapping long.wrapping (sym is ∙ long.wrapping_is) in
    let longer = rw (sym one_wrapping, sym same) at long.longer in
    omega (arith, longer, fits)

-- and without a token nothing is
pub no_token_fits : (cache : Cache) (asked : Asked) → asked.wrapping ≡ None → IsTokenTooLong cache asked → ⊥
no_token_fits cache asked is long = none_is long.wrapping (sym is ∙ long.wrapping_is)

-- what is asked for has no reason for not being made
pub none_unrequested : CachesHaveOne → RequestsArePrevented → (asked : Asked) (given : List ℕ) (cache : Cache) (bytes : List ℕ) → IsCache given cache → IsAskedFor cache asked bytes
    → (IsTokenTooLong cache asked → ⊥) → (fault : ClientFault) → IsUnrequested asked given fault → ⊥
none_unrequested one law asked given cache bytes is made fits (of.Cache fault) has = no_ok cache fault (one given (Ok cache) (Err fault) is has)
none_unrequested one law asked given cache bytes is made fits (of.Request fault) has =
    let same = same_ok has.0 cache (one given (Ok has.0) (Ok cache) has.1.0 is) in
    let unprinted = subst (λ (c : Cache). IsUnprinted c asked fault) same has.1.1 in
    elim unprinted [
      | prevented prevents ↦ law cache asked.service asked.at asked.confounder (chosen_options asked.wants_reply asked.wrapping) made.request made.requested.awaited fault made.requested.request prevents
      | token_too_long long too_long ↦ fits long
    ]
none_unrequested one law asked given cache bytes is made fits (of.Finish fault) has = absurd has
none_unrequested one law asked given cache bytes is made fits of.OutOfMemory has = absurd has
