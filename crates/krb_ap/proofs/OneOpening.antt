-- A request is opened in one way only: the stages have one value each.
use Rattle.std.proofs.Common.{◌≡◌, ℕ, List, refl, sym, subst}
use Rattle.krb_der.specs.Kind.{Kind, ValueOf}
use Rattle.krb_der.specs.Spells.{IsMessage}
use Rattle.krb_enc.specs.Key.{KeyValue}
use Rattle.krb_msg.specs.Module.{ap_req, enc_ticket_part, authenticator, IsMessageKind, is_ap_req, is_enc_ticket_part, is_authenticator}
use Rattle.krb_msg.specs.Fields.{encrypted_fields, request_fields}
use Rattle.krb_keytab.specs.Entry.{KeytabEntry}
use Rattle.krb_keytab.specs.Pick.{chosen}
use Rattle.krb_ap.specs.Setup.{Setup}
use Rattle.krb_ap.specs.Opened.{OpensAs, Asks, Keyed, Ticketed, OpensAuthenticator, Authenticated, OpenedAs, sealed_ticket, session_key, entry_key, ticket_usage, authenticator_usage, stamp_of}
use Rattle.krb_ap.specs.Causes.{OfRequest, OfAsked, OfTicket, OfAuthenticator, OfOpened, IsTicketShut}
use Rattle.krb_ap.specs.Inner.Facts.{Facts}

-- under one key a text opens to one message
pub one_message : Facts → (key : KeyValue) (usage : ℕ) (cipher : List ℕ) (k : Kind) → IsMessageKind k → (v w : ValueOf k)
    → OpensAs key usage cipher k v → OpensAs key usage cipher k w → v ≡ w
one_message facts key usage cipher k m v w one other =
    let e : other.plain ≡ one.plain = facts.one_plain key usage cipher other.plain one.plain other.opens one.opens in
    let moved : IsMessage k w one.plain = subst (λ (p : List ℕ). IsMessage k w p) e other.message in
    facts.one_value k m v w one.plain one.message moved

pub one_request : Facts → (bytes : List ℕ) (r s : ValueOf ap_req) → IsMessage ap_req r bytes → IsMessage ap_req s bytes → s ≡ r
one_request facts bytes r s one other = facts.one_value ap_req is_ap_req s r bytes other one

pub of_request : Facts → (bytes : List ℕ) (r : ValueOf ap_req) (P : ValueOf ap_req → Type 0) → IsMessage ap_req r bytes → OfRequest bytes P → P r
of_request facts bytes r P message o = subst P (one_request facts bytes r o.request message o.message) o.holds

pub of_asked : Facts → (bytes : List ℕ) (r : ValueOf ap_req) (P : ValueOf ap_req → Type 0) → Asks bytes r → OfAsked bytes P → P r
of_asked facts bytes r P asks o = subst P (one_request facts bytes r o.request asks.message o.asks.message) o.holds

pub same_entry : (e f : KeytabEntry) → chosen e ≡ chosen f → e ≡ f
same_entry e f h = cc

-- a request has one entry
pub one_entry : Facts → (setup : Setup) (bytes : List ℕ) (r : ValueOf ap_req) (e f : KeytabEntry)
    → Keyed setup bytes r e → Keyed setup bytes r f → f ≡ e
one_entry facts setup bytes r e f one other =
    same_entry f e (facts.one_choice setup r (chosen f) (chosen e) other.chosen_is one.chosen_is)

-- and one opened ticket
pub one_part : Facts → (setup : Setup) (bytes : List ℕ) (r : ValueOf ap_req) (p q : ValueOf enc_ticket_part)
    → Ticketed setup bytes r p → Ticketed setup bytes r q → q ≡ p
one_part facts setup bytes r p q one other =
    let e : other.entry ≡ one.entry = one_entry facts setup bytes r one.entry other.entry one.keyed other.keyed in
    let moved : OpensAs (entry_key one.entry) ticket_usage (encrypted_fields (sealed_ticket r)).cipher enc_ticket_part q =
    subst (λ (x : KeytabEntry). OpensAs (entry_key x) ticket_usage (encrypted_fields (sealed_ticket r)).cipher enc_ticket_part q) e other.opens in
    one_message facts (entry_key one.entry) ticket_usage (encrypted_fields (sealed_ticket r)).cipher enc_ticket_part is_enc_ticket_part q p moved one.opens

pub ticket_of_one : Facts → (setup : Setup) (bytes : List ℕ) (r s : ValueOf ap_req) (p q : ValueOf enc_ticket_part)
    → Ticketed setup bytes r p → Ticketed setup bytes s q → (s ≡ r) × (q ≡ p)
ticket_of_one facts setup bytes r s p q one other =
    let e : s ≡ r = one_request facts bytes r s one.keyed.asks.message other.keyed.asks.message in
    let moved : Ticketed setup bytes r q = subst (λ (x : ValueOf ap_req). Ticketed setup bytes x q) e other in
    (e, one_part facts setup bytes r p q one moved)

pub of_ticket : Facts → (setup : Setup) (bytes : List ℕ) (r : ValueOf ap_req) (p : ValueOf enc_ticket_part)
    (P : ValueOf ap_req → ValueOf enc_ticket_part → Type 0) → Ticketed setup bytes r p → OfTicket setup bytes P → P r p
of_ticket facts setup bytes r p P ticketed o =
    let same : (o.request ≡ r) × (o.part ≡ p) = ticket_of_one facts setup bytes r o.request p o.part ticketed o.ticketed in
    subst (λ (x : ValueOf ap_req). P x p) same.0 (subst (λ (x : ValueOf enc_ticket_part). P o.request x) same.1 o.holds)

pub not_shut : Facts → (setup : Setup) (bytes : List ℕ) (r : ValueOf ap_req) (p : ValueOf enc_ticket_part)
    → Ticketed setup bytes r p → ¬ IsTicketShut setup bytes
not_shut facts setup bytes r p ticketed o =
    let e : o.request ≡ r = one_request facts bytes r o.request ticketed.keyed.asks.message o.keyed.asks.message in
    let keyed : Keyed setup bytes o.request ticketed.entry = subst (λ (x : ValueOf ap_req). Keyed setup bytes x ticketed.entry) (sym e) ticketed.keyed in
    let f : ticketed.entry ≡ o.entry = one_entry facts setup bytes o.request o.entry ticketed.entry o.keyed keyed in
    let first : OpensAs (entry_key ticketed.entry) ticket_usage (encrypted_fields (sealed_ticket o.request)).cipher enc_ticket_part p =
    subst (λ (x : ValueOf ap_req). OpensAs (entry_key ticketed.entry) ticket_usage (encrypted_fields (sealed_ticket x)).cipher enc_ticket_part p) (sym e) ticketed.opens in
    o.shut p (subst (λ (x : KeytabEntry). OpensAs (entry_key x) ticket_usage (encrypted_fields (sealed_ticket o.request)).cipher enc_ticket_part p) f first)

pub one_auth : Facts → (r : ValueOf ap_req) (p : ValueOf enc_ticket_part) (a b : ValueOf authenticator)
    → OpensAuthenticator r p a → OpensAuthenticator r p b → b ≡ a
one_auth facts r p a b one other =
    one_message facts (session_key p) authenticator_usage (encrypted_fields (request_fields r).authenticator).cipher authenticator is_authenticator b a other.opens one.opens

pub record SameOpening (r s : ValueOf ap_req) (p q : ValueOf enc_ticket_part) (a b : ValueOf authenticator) : Type 0 where
  pub request : s ≡ r
  pub part : q ≡ p
  pub auth : b ≡ a

-- what holds of an opening holds of the same
pub of_same : (r s : ValueOf ap_req) (p q : ValueOf enc_ticket_part) (a b : ValueOf authenticator)
    (P : ValueOf ap_req → ValueOf enc_ticket_part → ValueOf authenticator → Type 0) → SameOpening r s p q a b → P s q b → P r p a
of_same r s p q a b P same holds = subst (λ (x : ValueOf ap_req). P x p a) same.request
    (subst (λ (x : ValueOf enc_ticket_part). P s x a) same.part (subst (λ (x : ValueOf authenticator). P s q x) same.auth holds))

pub same_stamp : (r s : ValueOf ap_req) (p q : ValueOf enc_ticket_part) (a b : ValueOf authenticator) → SameOpening r s p q a b
    → stamp_of s q b ≡ stamp_of r p a
same_stamp r s p q a b same = of_same r s p q a b (λ x y z. stamp_of s q b ≡ stamp_of x y z) same refl

pub one_authenticated : Facts → (setup : Setup) (bytes : List ℕ) (r s : ValueOf ap_req) (p q : ValueOf enc_ticket_part) (a b : ValueOf authenticator)
    → Authenticated setup bytes r p a → Authenticated setup bytes s q b → SameOpening r s p q a b
one_authenticated facts setup bytes r s p q a b one other =
    let same : (s ≡ r) × (q ≡ p) = ticket_of_one facts setup bytes r s p q one.ticketed other.ticketed in
    let first : OpensAuthenticator r q b = subst (λ (x : ValueOf ap_req). OpensAuthenticator x q b) same.0 other.opens in
    let moved : OpensAuthenticator r p b = subst (λ (x : ValueOf enc_ticket_part). OpensAuthenticator r x b) same.1 first in
    record { request = same.0; part = same.1; auth = one_auth facts r p a b one.opens moved }

pub of_authenticator : Facts → (setup : Setup) (bytes : List ℕ) (r : ValueOf ap_req) (p : ValueOf enc_ticket_part) (a : ValueOf authenticator)
    (P : ValueOf enc_ticket_part → ValueOf authenticator → Type 0) → Authenticated setup bytes r p a → OfAuthenticator setup bytes P → P p a
of_authenticator facts setup bytes r p a P authenticated o =
    let same : SameOpening r o.request p o.part a o.auth = one_authenticated facts setup bytes r o.request p o.part a o.auth authenticated o.authenticated in
    of_same r o.request p o.part a o.auth (λ x y z. P y z) same o.holds

pub of_opened : Facts → (setup : Setup) (bytes : List ℕ) (r : ValueOf ap_req) (p : ValueOf enc_ticket_part) (a : ValueOf authenticator)
    (P : ValueOf ap_req → ValueOf enc_ticket_part → ValueOf authenticator → Type 0) → OpenedAs setup bytes r p a → OfOpened setup bytes P → P r p a
of_opened facts setup bytes r p a P opened o =
    let same : SameOpening r o.request p o.part a o.auth =
    one_authenticated facts setup bytes r o.request p o.part a o.auth opened.authenticated o.opened.authenticated in
    of_same r o.request p o.part a o.auth P same o.holds
