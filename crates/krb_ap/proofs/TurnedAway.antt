-- Why a request is turned away, or how it is judged, at each stage.
use Rattle.std.proofs.Common.{◌≡◌, ℕ, ◌<◌, ℤ, pos, ◌+ℤ◌, List, sym, ◌∙◌, subst, arith, inl, inr, lit<, Some, None, Option}
use Rattle.std.specs.Prelude.{◌≤ℤ◌, ◌-ℤ◌, IfSome}
use Rattle.std.proofs.lemmas.Int.{ints}
use Rattle.krb_name.specs.declared.principal.Principal.{Principal}
use Rattle.krb_der.specs.Kind.{Kind, ValueOf}
use Rattle.krb_der.specs.Spells.{IsMessage}
use Rattle.krb_enc.specs.Key.{KeyValue, IsUsable, profile_of}
use Rattle.krb_enc.specs.Opens.{Opens}
use Rattle.krb_msg.specs.Module.{ap_req, enc_ticket_part, authenticator}
use Rattle.krb_msg.specs.Fields.{encrypted_fields}
use Rattle.krb_keytab.specs.Entry.{KeytabEntry}
use Rattle.krb_keytab.specs.Pick.{no_key, no_version}
use Rattle.krb_replay.specs.Stamp.{Stamp}
use Rattle.krb_replay.specs.Memory.{later_of, IsRecent}
use Rattle.krb_ap.specs.Setup.{Setup, Arrival, arrival}
use Rattle.krb_ap.specs.Opened.{OpensAs, Asks, Keyed, Ticketed, OpensAuthenticator, Authenticated, OpenedAs, SameClient, sealed_ticket, session_key, entry_key, service_of, ticket_usage, sent_at, stamp_of}
use Rattle.krb_ap.specs.Times.{Near}
use Rattle.krb_ap.specs.History.{greatest, effective, Shows, IsStillRecent}
use Rattle.krb_ap.specs.Causes.{place, Cause}
use Rattle.krb_ap.specs.Inner.Facts.{Facts}
use Rattle.krb_ap.specs.Inner.Stages.{Wants, IsShut, IsNone}
use Rattle.krb_ap.specs.Inner.Judging.{IsTurnedAway}
use Rattle.krb_ap.proofs.OneOpening.{one_authenticated, same_stamp, SameOpening}
use Rattle.krb_ap.proofs.Stages.{asked, named, with_key, keyed, ticketed, usable, authenticated, opened}
use Rattle.krb_ap.specs.declared.refusal.Refusal.{Refusal}
use Rattle.krb_ap.specs.declared.refusal.Refusal.TheVariants.{NotUs, NoKey, BadKeyVersion, TicketIntegrity, SessionKey, AuthenticatorIntegrity, BadMatch, Skew}

-- a text that opens to no message of the kind
pub opens_to_none : Facts → (key : KeyValue) (usage : ℕ) (cipher plain : List ℕ) (k : Kind) → Opens (profile_of key) key.bytes usage cipher plain
    → IsNone k plain → (v : ValueOf k) → ¬ OpensAs key usage cipher k v
opens_to_none facts key usage cipher plain k opens none v o =
    none v (subst (λ (x : List ℕ). IsMessage k v x) (facts.one_plain key usage cipher o.plain plain o.opens opens) o.message)

pub opens_nothing : (key : KeyValue) (usage : ℕ) (cipher : List ℕ) (k : Kind) → IsShut key usage cipher → (v : ValueOf k) → ¬ OpensAs key usage cipher k v
opens_nothing key usage cipher k shut v o = shut o.plain o.opens

pub wants_by : (setup : Setup) (request : ValueOf ap_req) (server : Principal) (r : Refusal) → server ≡ service_of request
    → Wants setup.entries server (sealed_ticket request) r → Wants setup.entries (service_of request) (sealed_ticket request) r
wants_by setup request server r s w = subst (λ (n : Principal). Wants setup.entries n (sealed_ticket request) r) s w

module _ (facts : Facts) (setup : Setup) (history : List Arrival) (bytes : List ℕ) (moment : ℤ) (Has : Stamp → Type 0) where
  -- what a cause before the opening turns away shows nothing
  pub turned_away : (r : Refusal) → place r < place Skew → Cause setup history (arrival bytes moment) r
      → IsTurnedAway setup history (arrival bytes moment) Has r
  turned_away r early cause = record {
    cause = cause;
    had = λ stamp shows. absurd (opened facts setup history (arrival bytes moment) shows.request shows.part shows.auth shows.opened r early cause.holds);
  }

  -- ---- the key

  pub wanted : (request : ValueOf ap_req) → Asks bytes request → (r : Refusal)
      → Wants setup.entries (service_of request) (sealed_ticket request) r → IsTurnedAway setup history (arrival bytes moment) Has r
  wanted request asks r w = elim w [
    | inl h ↦ subst (λ (x : Refusal). IsTurnedAway setup history (arrival bytes moment) Has x) (sym h.0) (turned_away NotUs (lit< tt) (record {
      holds = record { request = request; asks = asks; holds = h.1 };
      first = asked facts setup history (arrival bytes moment) request asks;
    }))
    | inr rest ↦ elim rest [
      | inl h ↦ subst (λ (x : Refusal). IsTurnedAway setup history (arrival bytes moment) Has x) (sym h.0) (turned_away NoKey (lit< tt) (record {
        holds = record { request = request; asks = asks; holds = h.1 };
        first = named facts setup history (arrival bytes moment) request no_key (λ e. cc) asks h.1;
      }))
      | inr h ↦ subst (λ (x : Refusal). IsTurnedAway setup history (arrival bytes moment) Has x) (sym h.0) (turned_away BadKeyVersion (lit< tt) (record {
        holds = record { request = request; asks = asks; holds = h.1 };
        first = with_key facts setup history (arrival bytes moment) request no_version (λ e. cc) (λ e. cc) asks h.1;
      }))
    ]
  ]

  -- ---- the ticket

  pub ticket_shut : (request : ValueOf ap_req) (entry : KeytabEntry) → Keyed setup bytes request entry
      → ((part : ValueOf enc_ticket_part) → ¬ OpensAs (entry_key entry) ticket_usage (encrypted_fields (sealed_ticket request)).cipher enc_ticket_part part)
      → IsTurnedAway setup history (arrival bytes moment) Has TicketIntegrity
  ticket_shut request entry k shut = turned_away TicketIntegrity (lit< tt) (record {
    holds = record { request = request; entry = entry; keyed = k; shut = shut };
    first = keyed facts setup history (arrival bytes moment) request entry k;
  })

  pub key_unusable : (request : ValueOf ap_req) (part : ValueOf enc_ticket_part) → Ticketed setup bytes request part
      → ¬ IsUsable (session_key part) → IsTurnedAway setup history (arrival bytes moment) Has SessionKey
  key_unusable request part t u = turned_away SessionKey (lit< tt) (record {
    holds = record { request = request; part = part; ticketed = t; holds = u };
    first = ticketed facts setup history (arrival bytes moment) request part t;
  })

  -- ---- the authenticator

  pub authenticator_shut : (request : ValueOf ap_req) (part : ValueOf enc_ticket_part) → Ticketed setup bytes request part → IsUsable (session_key part)
      → ((auth : ValueOf authenticator) → ¬ OpensAuthenticator request part auth)
      → IsTurnedAway setup history (arrival bytes moment) Has AuthenticatorIntegrity
  authenticator_shut request part t u shut = turned_away AuthenticatorIntegrity (lit< tt) (record {
    holds = record { request = request; part = part; ticketed = t; holds = shut };
    first = usable facts setup history (arrival bytes moment) request part t u;
  })

  pub other_client : (request : ValueOf ap_req) (part : ValueOf enc_ticket_part) (auth : ValueOf authenticator)
      → Authenticated setup bytes request part auth → ¬ SameClient part auth → IsTurnedAway setup history (arrival bytes moment) Has BadMatch
  other_client request part auth a other = turned_away BadMatch (lit< tt) (record {
    holds = record { request = request; part = part; auth = auth; authenticated = a; holds = other };
    first = authenticated facts setup history (arrival bytes moment) request part auth a;
  })

  -- ---- what was opened

  module _ (request : ValueOf ap_req) (part : ValueOf enc_ticket_part) (auth : ValueOf authenticator) (o : OpenedAs setup bytes request part auth) where
    same : (now : ℤ) (stamp : Stamp) (shows : Shows setup now bytes stamp) → SameOpening request shows.request part shows.part auth shows.auth
    same now stamp shows = one_authenticated facts setup bytes request shows.request part shows.part auth shows.auth o.authenticated shows.opened.authenticated

    -- what is shown is near, and is this stamp
    pub shown_near : (now : ℤ) (stamp : Stamp) → Shows setup now bytes stamp → Near (sent_at auth) now setup.skew
    shown_near now stamp shows = subst (λ (a : ValueOf authenticator). Near (sent_at a) now setup.skew) (same now stamp shows).auth shows.near

    pub shown_stamp : (now : ℤ) (stamp : Stamp) → Shows setup now bytes stamp → stamp ≡ stamp_of request part auth
    shown_stamp now stamp shows = shows.stamp_is ∙ same_stamp request shows.request part shows.part auth shows.auth (same now stamp shows)

-- ---- a memory that stands for a history has what was shown and is near

pub later_is_later : (latest moment : ℤ) → latest ≤ℤ later_of (Some latest) moment
later_is_later latest moment = grind (arith, ints)

recent : (latest now sent : ℤ) (skew : ℕ) → latest ≤ℤ now → now ≤ℤ (sent +ℤ pos skew) → (latest -ℤ pos skew) ≤ℤ sent
recent latest now sent skew h g = omega (arith, ints)

pub near_is_recent : (setup : Setup) (history : List Arrival) (moment : ℤ) (stamp : Stamp)
    → Near stamp.time (effective history moment) setup.skew → IsStillRecent setup history stamp
near_is_recent setup history moment stamp near = at (greatest history) near.not_before
  where
    at : (latest : Option ℤ) → later_of latest moment ≤ℤ (stamp.time +ℤ pos setup.skew) → IfSome latest (λ now. IsRecent now setup.skew stamp)
    at None h = tt
    at (Some latest) h = recent latest (later_of (Some latest) moment) stamp.time setup.skew (later_is_later latest moment) h
