-- Each call has an answer: it is accepted, or there is a first cause.
use Rattle.std.proofs.Common.{◌≡◌, ℕ, ◌<◌, ℤ, pos, List, [], ◌∷◌, refl, sym, ◌∙◌, inl, inr, ◌⊎◌, lit<}
use Rattle.krb_der.specs.Kind.{Kind, ValueOf}
use Rattle.krb_der.specs.Spells.{IsMessage}
use Rattle.krb_enc.specs.Key.{KeyValue, IsKnown, IsUsable}
use Rattle.krb_msg.specs.Bits.{use_session_key}
use Rattle.krb_msg.specs.Module.{ap_req, enc_ticket_part, authenticator, IsMessageKind, is_ap_req, is_enc_ticket_part, is_authenticator}
use Rattle.krb_msg.specs.Fields.{request_fields, encrypted_fields, part_client, authenticator_client}
use Rattle.krb_keytab.specs.Entry.{KeytabEntry}
use Rattle.krb_keytab.specs.Pick.{Choice, chosen, no_name, no_key, no_version}
use Rattle.krb_replay.specs.Stamp.{Stamp}
use Rattle.krb_ap.specs.Setup.{Setup, Arrival, arrival, setup_for}
use Rattle.krb_ap.specs.Opened.{OpensAs, Asks, Keyed, Ticketed, Authenticated, OpenedAs, IsChoiceFor, sealed_ticket, session_key, entry_key, service_of, ticket_usage, authenticator_usage, sent_at, stamp_of}
use Rattle.krb_ap.specs.History.{effective, Shows, IsShown}
use Rattle.krb_ap.specs.Taken.{Taken, Accept}
use Rattle.krb_ap.specs.Causes.{BeginsOtherwise, place, Cause}
use Rattle.krb_ap.specs.Inner.Facts.{Facts}
use Rattle.krb_ap.specs.Inner.Decisions.{Decisions}
use Rattle.krb_ap.proofs.Decided.{Decided, both, head_of, one_of, numbers, integers, same_name, stamps}
use Rattle.krb_ap.proofs.TurnedAway.{wanted, ticket_shut, key_unusable, authenticator_shut, other_client, opens_nothing, opens_to_none, shown_near, shown_stamp}
use Rattle.krb_ap.proofs.OfOpened.{near, answered as of_opened_answered}
use Rattle.krb_ap.proofs.Table.{none_before}
use Rattle.krb_ap.proofs.Stages.{begun, read, ordinary, opened}
use Rattle.krb_ap.specs.declared.refusal.Refusal.{Refusal}
use Rattle.krb_ap.specs.declared.refusal.Refusal.TheVariants.{MessageType, Malformed, UserToUser, TicketEtype, NotUs, NoKey, BadKeyVersion, TicketIntegrity, SessionKey, AuthenticatorIntegrity, BadMatch, Skew}

-- how far bytes come, whatever was before: to a cause, or to what they are opened as
pub data Outcome (setup : Setup) (bytes : List ℕ) : Type 0 where
  refused : (r : Refusal) → place r < place Skew → ((history : List Arrival) (moment : ℤ) → Cause setup history (arrival bytes moment) r) → Outcome setup bytes
  taken : (request : ValueOf ap_req) (part : ValueOf enc_ticket_part) (auth : ValueOf authenticator) → OpenedAs setup bytes request part auth → Outcome setup bytes

pub begins : (tag : ℕ) (bytes : List ℕ) → Decided (BeginsOtherwise tag bytes)
begins tag [] = inr (λ b. let e : [] ≡ b.first ∷ b.rest = b.bytes_are in absurd cc)
begins tag (x ∷ xs) = elim (numbers x tag) [
  | inl same ↦ inr (λ b. b.other (head_of b.first x b.rest xs (sym b.bytes_are) ∙ same))
  | inr other ↦ inl (record { first = x; rest = xs; bytes_are = refl; other = other })
]

known : (etype : ℤ) → Decided (IsKnown etype)
known etype = one_of (etype ≡ pos 19) (etype ≡ pos 20) (integers etype (pos 19)) (integers etype (pos 20))

-- a sealed text opens to a message of the kind, or to none
pub opens_as : Facts → Decisions → (key : KeyValue) (usage : ℕ) (cipher : List ℕ) (k : Kind) → IsMessageKind k
    → ((v : ValueOf k) × OpensAs key usage cipher k v) ⊎ ((v : ValueOf k) → ¬ OpensAs key usage cipher k v)
opens_as facts d key usage cipher k m = elim (d.opening key usage cipher) [
  | inl opening ↦ elim (d.message k m opening.0) [
    | inl message ↦ inl (message.0, record { plain = opening.0; opens = opening.1; message = message.1 })
    | inr none ↦ inr (opens_to_none facts key usage cipher opening.0 k opening.1 none)
  ]
  | inr nothing ↦ inr (opens_nothing key usage cipher k nothing)
]

module _ (facts : Facts) (d : Decisions) (setup : Setup) (bytes : List ℕ) where
  by_client : (request : ValueOf ap_req) (part : ValueOf enc_ticket_part) (auth : ValueOf authenticator) → Authenticated setup bytes request part auth
      → Outcome setup bytes
  by_client request part auth a = elim (same_name (part_client part) (authenticator_client auth)) [
    | inl same ↦ taken request part auth (record { authenticated = a; same_client = same })
    | inr other ↦ refused BadMatch (lit< tt) (λ history moment. (other_client facts setup history bytes moment (λ s. ⊥) request part auth a other).cause)
  ]

  by_authenticator : (request : ValueOf ap_req) (part : ValueOf enc_ticket_part) → Ticketed setup bytes request part → IsUsable (session_key part)
      → Outcome setup bytes
  by_authenticator request part t u = elim (integers (encrypted_fields (request_fields request).authenticator).etype (session_key part).etype) [
    | inl same ↦ elim (opens_as facts d (session_key part) authenticator_usage (encrypted_fields (request_fields request).authenticator).cipher authenticator is_authenticator) [
      | inl opening ↦ by_client request part opening.0 (record { ticketed = t; usable = u; opens = record { same_type = same; opens = opening.1 } })
      | inr shut ↦ refused AuthenticatorIntegrity (lit< tt)
          (λ history moment. (authenticator_shut facts setup history bytes moment (λ s. ⊥) request part t u (λ auth o. shut auth o.opens)).cause)
    ]
    | inr other ↦ refused AuthenticatorIntegrity (lit< tt)
        (λ history moment. (authenticator_shut facts setup history bytes moment (λ s. ⊥) request part t u (λ auth o. other o.same_type)).cause)
  ]

  by_session : (request : ValueOf ap_req) (part : ValueOf enc_ticket_part) → Ticketed setup bytes request part → Outcome setup bytes
  by_session request part t = elim (d.usable (session_key part)) [
    | inl u ↦ by_authenticator request part t u
    | inr none ↦ refused SessionKey (lit< tt) (λ history moment. (key_unusable facts setup history bytes moment (λ s. ⊥) request part t none).cause)
  ]

  by_ticket : (request : ValueOf ap_req) (entry : KeytabEntry) → Keyed setup bytes request entry → Outcome setup bytes
  by_ticket request entry k = elim (opens_as facts d (entry_key entry) ticket_usage (encrypted_fields (sealed_ticket request)).cipher enc_ticket_part is_enc_ticket_part) [
    | inl opening ↦ by_session request opening.0 (record { entry = entry; keyed = k; opens = opening.1 })
    | inr shut ↦ refused TicketIntegrity (lit< tt) (λ history moment. (ticket_shut facts setup history bytes moment (λ s. ⊥) request entry k shut).cause)
  ]

  by_choice : (request : ValueOf ap_req) → Asks bytes request → (choice : Choice) → IsChoiceFor setup request choice → Outcome setup bytes
  by_choice request asks (chosen entry) h = by_ticket request entry (record { asks = asks; chosen_is = h })
  by_choice request asks no_name h = refused NotUs (lit< tt) (λ history moment. (wanted facts setup history bytes moment (λ s. ⊥) request asks NotUs (inl (refl, h))).cause)
  by_choice request asks no_key h = refused NoKey (lit< tt) (λ history moment. (wanted facts setup history bytes moment (λ s. ⊥) request asks NoKey (inr (inl (refl, h)))).cause)
  by_choice request asks no_version h = refused BadKeyVersion (lit< tt) (λ history moment. (wanted facts setup history bytes moment (λ s. ⊥) request asks BadKeyVersion (inr (inr (refl, h)))).cause)

  by_request : (request : ValueOf ap_req) → IsMessage ap_req request bytes → Outcome setup bytes
  by_request request message = elim (d.bit (request_fields request).options use_session_key) [
    | inl set ↦ refused UserToUser (lit< tt) (λ history moment. record {
      holds = record { request = request; message = message; holds = set };
      first = read facts setup history (arrival bytes moment) request message;
    })
    | inr clear ↦ elim (known (encrypted_fields (sealed_ticket request)).etype) [
      | inl is ↦ (let choice : (choice : Choice) × IsChoiceFor setup request choice =
          d.choice setup.entries (service_of request) (encrypted_fields (sealed_ticket request)).etype (encrypted_fields (sealed_ticket request)).kvno in
          by_choice request (record { message = message; ordinary = clear; known = is }) choice.0 choice.1)
      | inr other ↦ refused TicketEtype (lit< tt) (λ history moment. record {
        holds = record { request = request; message = message; holds = other };
        first = ordinary facts setup history (arrival bytes moment) request message clear;
      })
    ]
  ]

  pub outcome : Outcome setup bytes
  outcome = elim (begins 0x6e bytes) [
    | inl other ↦ refused MessageType (lit< tt) (λ history moment. record { holds = other; first = none_before setup history (arrival bytes moment) })
    | inr so ↦ elim (d.message ap_req is_ap_req bytes) [
      | inl message ↦ by_request message.0 message.1
      | inr none ↦ (let fault : _ = d.fault ap_req is_ap_req bytes none in
          refused (Malformed fault.0) (lit< tt) (λ history moment. record {
            holds = (none, fault.1);
            first = begun facts setup history (arrival bytes moment) so;
          }))
    ]
  ]

module _ (facts : Facts) (d : Decisions) (setup : Setup) where
  shows : (now : ℤ) (bytes : List ℕ) (stamp : Stamp) → Decided (Shows setup now bytes stamp)
  shows now bytes stamp = at (outcome facts d setup bytes)
    where
      at : Outcome setup bytes → Decided (Shows setup now bytes stamp)
      at (refused r early cause) = inr (λ s. opened facts setup [] (arrival bytes now) s.request s.part s.auth s.opened r early (cause [] now).holds)
      at (taken request part auth o) = elim (both _ _ (near (sent_at auth) now setup.skew) (stamps stamp (stamp_of request part auth))) [
        | inl h ↦ inl (record { request = request; part = part; auth = auth; opened = o; near = h.0; stamp_is = h.1 })
        | inr none ↦ inr (λ s. none (shown_near facts setup [] bytes now (λ x. ⊥) request part auth o now stamp s, shown_stamp facts setup [] bytes now (λ x. ⊥) request part auth o now stamp s))
      ]

module _ (facts : Facts) (d : Decisions) (setup : Setup) where
  shown : (history : List Arrival) (stamp : Stamp) → Decided (IsShown setup history stamp)
  shown [] stamp = inr (λ h. h)
  shown (a ∷ history) stamp = one_of _ _ (shows facts d (setup_for setup a) (effective history a.moment) a.bytes stamp) (shown history stamp)

  pub answered : (history : List Arrival) (call : Arrival) → ((t : Taken) × Accept setup history call t) ⊎ ((r : Refusal) × Cause setup history call r)
  answered history call = at (outcome facts d setup call.bytes)
    where
      at : Outcome setup call.bytes → ((t : Taken) × Accept setup history call t) ⊎ ((r : Refusal) × Cause setup history call r)
      at (refused r early cause) = inr (r, cause history call.moment)
      at (taken request part auth o) =
          of_opened_answered facts setup history call.bytes call.moment request part auth o d (shown history (stamp_of request part auth))
