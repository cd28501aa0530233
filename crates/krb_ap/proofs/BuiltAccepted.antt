-- A built request is accepted, or why it is refused.
use Rattle.std.proofs.Common.{◌≡◌, ◌<◌, lit<, ℕ, ℤ, List, Bool, true, false, refl, sym, ap, subst, inl, inr}
use Rattle.std.specs.Prelude.{◌↔◌, IsTrue}
use Rattle.krb_name.specs.declared.principal.Principal.{Principal}
use Rattle.krb_der.specs.Kind.{ValueOf}
use Rattle.krb_der.specs.Flags.{HasBit}
use Rattle.krb_enc.specs.Key.{KeyValue, IsKnown, IsUsable, profile_of}
use Rattle.krb_enc.specs.Opens.{Opens}
use Rattle.krb_msg.specs.Bits.{use_session_key, mutual_required}
use Rattle.krb_msg.specs.Module.{ap_req, ticket as ticket_kind, enc_ticket_part, authenticator, is_ticket}
use Rattle.krb_msg.specs.Fields.{ticket_service, part_client}
use Rattle.krb_keytab.specs.Entry.{KeytabEntry}
use Rattle.krb_ccache.specs.Value.{Cache}
use Rattle.krb_ccache.specs.declared.credential.Credential.{Credential}
use Rattle.krb_ap.specs.Setup.{Setup, Arrival, arrival}
use Rattle.krb_ap.specs.Opened.{OpensAs, OpensAuthenticator, OpenedAs, authenticator_usage, sent_at, stamp_at, stamp_of}
use Rattle.krb_ap.specs.Times.{Near, IsEarly, IsLate, IsPathTrusted, IsDataIgnorable}
use Rattle.krb_ap.specs.Quiet.{Settled}
use Rattle.krb_ap.specs.History.{effective, IsShown}
use Rattle.krb_ap.specs.Taken.{Taken, Accept, taken_from}
use Rattle.krb_ap.specs.Written.{IsSealed}
use Rattle.krb_ap.specs.Credentials.{credential_key}
use Rattle.krb_ap.specs.Request.{Awaited, IsRequest, IsBuilt, awaited_for, request_for, authenticator_for, options_for}
use Rattle.krb_ap.specs.Headline.{Agrees, HasTicket, MayBeRefused, MayBeTaken}
use Rattle.krb_ap.specs.Causes.{Cause, OfOpened, place}
use Rattle.krb_ap.specs.Inner.Facts.{Facts}
use Rattle.krb_ap.specs.declared.request.RequestOptions.{RequestOptions}
use Rattle.krb_ap.specs.declared.refusal.Refusal.{Refusal}
use Rattle.krb_ap.specs.declared.refusal.Refusal.TheVariants.{MessageType, Malformed, UserToUser, TicketEtype, NotUs, NoKey, BadKeyVersion, TicketIntegrity, SessionKey, AuthenticatorIntegrity, BadMatch, Skew, JustStarted, Repeat, NotYetValid, Expired, Transited, Authorization, OutOfMemory}
use Rattle.krb_ap.proofs.OneOpening.{of_opened}
use Rattle.krb_ap.proofs.Stages.{opened as opened_clears}

-- ---- the options of a request

ordinary : (reply : Bool) → ¬ HasBit (options_for reply) use_session_key
ordinary true h = absurd cc
ordinary false h = absurd cc

asked : (reply : Bool) → IsTrue reply ↔ HasBit (options_for reply) mutual_required
asked true = (λ e. refl, λ h. refl)
asked false = (λ e. absurd cc, λ h. absurd cc)

-- ---- what is sealed opens

pub sealed_opens : (key : KeyValue) (usage : ℕ) (confounder plain text : List ℕ) → IsSealed key usage confounder plain text
    → Opens (profile_of key) key.bytes usage text plain
sealed_opens key usage confounder plain text s = record {
  confounder = confounder;
  is_block = record { size = s.size; bytes = s.confounder_bytes };
  plain_bytes = s.plain_bytes;
  sealed_is = sym s.text_is;
}

module _ (credential : Credential) (at : ℤ) (confounder : List ℕ) (options : RequestOptions) (bytes : List ℕ)
    (built : IsBuilt credential at confounder options bytes) where
  abbrev pub told_auth : ValueOf authenticator
  told_auth = authenticator_for credential built.text_is.told.ctime built.text_is.told.cusec options

  abbrev pub told_request : ValueOf ap_req
  told_request = request_for credential options built.ticket built.text

  -- the authenticator opens under the credential's key
  pub opens_told : OpensAs (credential_key credential) authenticator_usage built.text authenticator told_auth
  opens_told = record {
    plain = built.text_is.plain;
    opens = sealed_opens (credential_key credential) authenticator_usage confounder built.text_is.plain built.text built.text_is.text_is;
    message = built.text_is.told.plain_is.message;
  }

  -- which is the ticket's session key; and what is sent is what the client awaits
  module _ (setup : Setup) (ticket : ValueOf ticket_kind) (part : ValueOf enc_ticket_part) (has : HasTicket setup credential ticket part) where
    pub opens_auth : OpensAuthenticator told_request part told_auth
    opens_auth = record {
      same_type = ap (λ (k : KeyValue). k.etype) (sym has.key);
      opens = subst (λ (k : KeyValue). OpensAs k authenticator_usage built.text authenticator told_auth) (sym has.key) opens_told;
    }

    pub told_agrees : (reply : Bool) → Agrees (taken_from told_request part told_auth reply) (awaited_for credential at options)
    told_agrees reply = record {
      client = record { realm = has.client.realm; components = has.client.components };
      key = has.key;
      at = sym built.text_is.told.at_is;
      subkey = refl;
      seq = refl;
    }

-- the type of a key that was chosen is known
chosen_known : (entry : KeytabEntry) (etype : ℤ) → IsKnown entry.etype → entry.etype ≡ etype → IsKnown etype
chosen_known entry etype known e = subst IsKnown e known

usable_known : (key : KeyValue) → IsUsable key → IsKnown key.etype
usable_known key (inl h) = inl h.0
usable_known key (inr h) = inr h.0

module _ (facts : Facts) (setup : Setup) (history : List Arrival) (moment : ℤ) (cache : Cache) (service : Principal) (at : ℤ) (confounder : List ℕ)
    (options : RequestOptions) (bytes : List ℕ) (awaited : Awaited) (part : ValueOf enc_ticket_part)
    (request : IsRequest cache service at confounder options bytes awaited) where
  abbrev credential : Credential
  credential = request.credential

  abbrev built : IsBuilt credential at confounder options bytes
  built = request.built

  abbrev auth : ValueOf authenticator
  auth = told_auth credential at confounder options bytes built

  abbrev message : ValueOf ap_req
  message = told_request credential at confounder options bytes built

  opened : HasTicket setup credential built.ticket part → OpenedAs setup bytes message part auth
  opened has = record {
    authenticated = record {
      ticketed = record {
        entry = has.entry;
        keyed = record {
          asks = record {
            message = built.bytes_are.message;
            ordinary = ordinary options.mutual;
            known = chosen_known has.entry _ (usable_known (record { etype = has.entry.etype; bytes = has.entry.key }) has.chosen_is.candidate.key_of.usable) has.chosen_is.candidate.key_of.same_etype;
          };
          chosen_is = has.chosen_is;
        };
        opens = has.opens;
      };
      usable = subst IsUsable (sym has.key) request.used.fit.usable_for.usable;
      opens = opens_auth credential at confounder options bytes built setup built.ticket part has;
    };
    same_client = record { realm = has.client.realm; components = has.client.components };
  }

  abbrev taken : Taken
  taken = taken_from message part auth options.mutual

  accept : HasTicket setup credential built.ticket part → MayBeTaken setup history moment at built.ticket part → Accept setup history (arrival bytes moment) taken
  accept has may = record {
    request = message;
    part = part;
    auth = auth;
    opened = opened has;
    near = subst (λ (t : ℤ). Near t (effective history moment) setup.skew) built.text_is.told.at_is may.near;
    settled = subst (λ (t : ℤ). Settled setup (effective history moment) t) built.text_is.told.at_is may.settled;
    unshown = subst (λ (t : ℤ). ¬ IsShown setup history (stamp_at (ticket_service built.ticket) (part_client part) t)) built.text_is.told.at_is may.unshown;
    alive = may.alive;
    trusted = may.trusted;
    ignorable = record { of_ticket = may.ignorable; of_authenticator = tt };
    taken_is = record { told = refl; wants_reply = asked options.mutual };
  }

  agrees : HasTicket setup credential built.ticket part → Agrees taken awaited
  agrees has = subst (λ (a : Awaited). Agrees taken a) (sym request.awaited_is)
      (told_agrees credential at confounder options bytes built setup built.ticket part has options.mutual)

  pub accepted_by : (ticket : ValueOf ticket_kind) → HasTicket setup credential ticket part → MayBeTaken setup history moment at ticket part
      → (t : Taken) × Accept setup history (arrival bytes moment) t × (t.client ≡ part_client part) × (t.service ≡ ticket_service ticket)
      × (t.wants_reply ≡ options.mutual) × Agrees t awaited
  accepted_by ticket has may =
      let same : ticket ≡ built.ticket = facts.one_value ticket_kind is_ticket ticket built.ticket credential.ticket has.ticket_is built.ticket_is in
      let built_in : HasTicket setup credential built.ticket part = subst (λ (t : ValueOf ticket_kind). HasTicket setup credential t part) same has in (
        taken,
        accept built_in (subst (λ (t : ValueOf ticket_kind). MayBeTaken setup history moment at t part) same may),
        refl,
        ap ticket_service (sym same),
        refl,
        agrees built_in,
      )

  -- ---- why it is refused

  of : (P : ValueOf ap_req → ValueOf enc_ticket_part → ValueOf authenticator → Type 0) → OpenedAs setup bytes message part auth → OfOpened setup bytes P
      → P message part auth
  of P o h = of_opened facts setup bytes message part auth P o h

  module _ (o : OpenedAs setup bytes message part auth) where
    before : (r : Refusal) → place r < place Skew → Cause setup history (arrival bytes moment) r → ⊥
    before r early cause = opened_clears facts setup history (arrival bytes moment) message part auth o r early cause.holds

    by_cause : (r : Refusal) → Cause setup history (arrival bytes moment) r → MayBeRefused setup history moment at built.ticket part r
    by_cause Skew cause = λ near. of (λ r p a. ¬ Near (sent_at a) (effective history moment) setup.skew) o cause.holds
        (subst (λ (t : ℤ). Near t (effective history moment) setup.skew) built.text_is.told.at_is near)
    by_cause JustStarted cause = λ settled. of (λ r p a. ¬ Settled setup (effective history moment) (sent_at a)) o cause.holds
        (subst (λ (t : ℤ). Settled setup (effective history moment) t) built.text_is.told.at_is settled)
    by_cause Repeat cause = subst (λ (t : ℤ). IsShown setup history (stamp_at (ticket_service built.ticket) (part_client part) t)) (sym built.text_is.told.at_is)
        (of (λ r p a. IsShown setup history (stamp_of r p a)) o cause.holds)
    by_cause NotYetValid cause = of (λ r p a. IsEarly p (effective history moment) setup.skew) o cause.holds
    by_cause Expired cause = of (λ r p a. IsLate p (effective history moment) setup.skew) o cause.holds
    by_cause Transited cause = of (λ r p a. ¬ IsPathTrusted r p) o cause.holds
    by_cause Authorization cause = λ ignorable. of (λ r p a. ¬ IsDataIgnorable p a) o cause.holds (record { of_ticket = ignorable; of_authenticator = tt })
    by_cause MessageType cause = before MessageType (lit< tt) cause
    by_cause (Malformed fault) cause = before (Malformed fault) (lit< tt) cause
    by_cause UserToUser cause = before UserToUser (lit< tt) cause
    by_cause TicketEtype cause = before TicketEtype (lit< tt) cause
    by_cause NotUs cause = before NotUs (lit< tt) cause
    by_cause NoKey cause = before NoKey (lit< tt) cause
    by_cause BadKeyVersion cause = before BadKeyVersion (lit< tt) cause
    by_cause TicketIntegrity cause = before TicketIntegrity (lit< tt) cause
    by_cause SessionKey cause = before SessionKey (lit< tt) cause
    by_cause AuthenticatorIntegrity cause = before AuthenticatorIntegrity (lit< tt) cause
    by_cause BadMatch cause = before BadMatch (lit< tt) cause
    by_cause OutOfMemory cause = cause.holds

  pub refused_by : (ticket : ValueOf ticket_kind) → HasTicket setup credential ticket part → (r : Refusal) → Cause setup history (arrival bytes moment) r
      → MayBeRefused setup history moment at ticket part r
  refused_by ticket has r cause =
      let same : ticket ≡ built.ticket = facts.one_value ticket_kind is_ticket ticket built.ticket credential.ticket has.ticket_is built.ticket_is in
      subst (λ (t : ValueOf ticket_kind). MayBeRefused setup history moment at t part r) (sym same)
      (by_cause (opened (subst (λ (t : ValueOf ticket_kind). HasTicket setup credential t part) same has)) r cause)
