-- What a service takes from a built request, and what a client opens a reply to.
use Rattle.std.proofs.Common.{◌≡◌, ℕ, ℤ, List, sym, subst}
use Rattle.krb_der.specs.Kind.{ValueOf}
use Rattle.krb_der.specs.Spells.{IsMessage}
use Rattle.krb_enc.specs.Key.{KeyValue}
use Rattle.krb_msg.specs.Module.{ap_req, ap_rep, ticket as ticket_kind, enc_ticket_part, enc_ap_rep_part, authenticator, is_ap_rep, is_ticket, is_enc_ap_rep_part}
use Rattle.krb_ccache.specs.declared.credential.Credential.{Credential}
use Rattle.krb_ap.specs.Setup.{Setup, Arrival}
use Rattle.krb_ap.specs.Opened.{OpensAs, Asks, Ticketed, OpensAuthenticator, OpenedAs}
use Rattle.krb_ap.specs.Taken.{Taken, Accept, IsTakenFrom, taken_from}
use Rattle.krb_ap.specs.Request.{IsBuilt, awaited_for}
use Rattle.krb_ap.specs.Headline.{Agrees, HasTicket}
use Rattle.krb_ap.specs.Reply.{IsReply, reply_for, reply_part_for, reply_usage}
use Rattle.krb_ap.specs.Finish.{OpensReply}
use Rattle.krb_ap.specs.Inner.Facts.{Facts}
use Rattle.krb_ap.specs.declared.request.RequestOptions.{RequestOptions}
use Rattle.krb_ap.specs.declared.reply.ReplyOptions.{ReplyOptions}
use Rattle.krb_ap.proofs.BuiltAccepted.{opens_auth, sealed_opens, told_agrees, told_auth, told_request}
use Rattle.krb_ap.proofs.OneOpening.{of_same, one_message, one_request, one_part, one_auth, SameOpening}

-- ---- what is accepted of a built request

module _ (facts : Facts) (setup : Setup) (credential : Credential) (ticket : ValueOf ticket_kind) (part : ValueOf enc_ticket_part)
    (has : HasTicket setup credential ticket part) (at : ℤ) (confounder : List ℕ) (options : RequestOptions) (bytes : List ℕ)
    (built : IsBuilt credential at confounder options bytes) where
  abbrev auth : ValueOf authenticator
  auth = told_auth credential at confounder options bytes built

  abbrev message : ValueOf ap_req
  message = told_request credential at confounder options bytes built

  same_ticket : ticket ≡ built.ticket
  same_ticket = facts.one_value ticket_kind is_ticket ticket built.ticket credential.ticket has.ticket_is built.ticket_is

  has_built : HasTicket setup credential built.ticket part
  has_built = subst (λ (t : ValueOf ticket_kind). HasTicket setup credential t part) same_ticket has

  ticketed : Asks bytes message → Ticketed setup bytes message part
  ticketed asks = record { entry = has_built.entry; keyed = record { asks = asks; chosen_is = has_built.chosen_is }; opens = has_built.opens }

  auth_opens : OpensAuthenticator message part auth
  auth_opens = opens_auth credential at confounder options bytes built setup ticket part has

  -- it is opened as what was built
  opened_as : (r : ValueOf ap_req) (p : ValueOf enc_ticket_part) (a : ValueOf authenticator) → OpenedAs setup bytes r p a → SameOpening message r part p auth a
  opened_as r p a opened =
      let request : r ≡ message = one_request facts bytes message r built.bytes_are.message opened.authenticated.ticketed.keyed.asks.message in
      let moved : Ticketed setup bytes message p = subst (λ (x : ValueOf ap_req). Ticketed setup bytes x p) request opened.authenticated.ticketed in
      let same : p ≡ part = one_part facts setup bytes message part p (ticketed moved.keyed.asks) moved in
      let first : OpensAuthenticator message p a = subst (λ (x : ValueOf ap_req). OpensAuthenticator x p a) request opened.authenticated.opens in
      let second : OpensAuthenticator message part a = subst (λ (x : ValueOf enc_ticket_part). OpensAuthenticator message x a) same first in
      record { request = request; part = same; auth = one_auth facts message part auth a auth_opens second }

  taken_told : (r : ValueOf ap_req) (p : ValueOf enc_ticket_part) (a : ValueOf authenticator) (taken : Taken) → SameOpening message r part p auth a
      → IsTakenFrom r p a taken → taken ≡ taken_from message part auth taken.wants_reply
  taken_told r p a taken same known = of_same message r part p auth a (λ x y z. taken ≡ taken_from x y z taken.wants_reply) same known.told

  -- the service knows what the client awaits
  pub taken_agrees : (history : List Arrival) (call : Arrival) (taken : Taken) → call.bytes ≡ bytes → Accept setup history call taken
      → Agrees taken (awaited_for credential at options)
  taken_agrees history call taken e a =
      let opened : OpenedAs setup bytes a.request a.part a.auth = subst (λ (b : List ℕ). OpenedAs setup b a.request a.part a.auth) e a.opened in
      subst (λ (t : Taken). Agrees t (awaited_for credential at options))
      (sym (taken_told a.request a.part a.auth taken (opened_as a.request a.part a.auth opened) a.taken_is))
      (told_agrees credential at confounder options bytes built setup ticket part has taken.wants_reply)

-- ---- what is opened of a reply

pub reply_opens : Facts → (key : KeyValue) (taken : Taken) (confounder : List ℕ) (options : ReplyOptions) (bytes : List ℕ) (reply : ValueOf ap_rep)
    (part : ValueOf enc_ap_rep_part) → taken.session_key ≡ key → IsReply taken confounder options bytes → IsMessage ap_rep reply bytes
    → OpensReply key reply part → part ≡ reply_part_for taken options
reply_opens facts key taken confounder options bytes reply part e r message o =
    let same : reply ≡ reply_for taken.session_key r.text =
    facts.one_value ap_rep is_ap_rep reply (reply_for taken.session_key r.text) bytes message r.bytes_are.message in
    let first : OpensReply key (reply_for taken.session_key r.text) part = subst (λ (x : ValueOf ap_rep). OpensReply key x part) same o in
    let told : OpensAs taken.session_key reply_usage r.text enc_ap_rep_part (reply_part_for taken options) = record {
      plain = r.plain;
      opens = sealed_opens taken.session_key reply_usage confounder r.plain r.text r.text_is;
      message = r.plain_is.message;
    } in
    one_message facts key reply_usage r.text enc_ap_rep_part is_enc_ap_rep_part part (reply_part_for taken options) first.opens
    (subst (λ (k : KeyValue). OpensAs k reply_usage r.text enc_ap_rep_part (reply_part_for taken options)) e told)
