-- What each stage of a decision passes in the table of causes.
use Rattle.std.proofs.Common.{◌≡◌, List}
use Rattle.krb_der.specs.Kind.{ValueOf}
use Rattle.krb_der.specs.Spells.{IsMessage}
use Rattle.krb_der.specs.Flags.{HasBit}
use Rattle.krb_enc.specs.Key.{IsKnown, IsUsable}
use Rattle.krb_msg.specs.Bits.{use_session_key}
use Rattle.krb_msg.specs.Module.{ap_req, enc_ticket_part, authenticator}
use Rattle.krb_msg.specs.Fields.{request_fields, encrypted_fields}
use Rattle.krb_keytab.specs.Entry.{KeytabEntry}
use Rattle.krb_keytab.specs.Pick.{Choice, chosen, no_name, no_key, no_version}
use Rattle.krb_ap.specs.Setup.{Setup, Arrival}
use Rattle.krb_ap.specs.Opened.{Asks, Keyed, Ticketed, Authenticated, OpenedAs, OpensAuthenticator, SameClient, IsChoiceFor, sealed_ticket, session_key}
use Rattle.krb_ap.specs.Causes.{Holds, place}
use Rattle.krb_ap.specs.Inner.Facts.{Facts}
use Rattle.krb_ap.proofs.Begins.{begins_so}
use Rattle.krb_ap.proofs.OneOpening.{of_request, of_asked, of_ticket, of_authenticator, not_shut}
use Rattle.krb_ap.proofs.Table.{Clear, malformed, none_before, pass, pass_malformed}
use Rattle.krb_ap.specs.declared.refusal.Refusal.TheVariants.{MessageType, UserToUser, TicketEtype, NotUs, NoKey, BadKeyVersion, TicketIntegrity, SessionKey, AuthenticatorIntegrity, BadMatch, Skew}

module _ (facts : Facts) (setup : Setup) (history : List Arrival) (call : Arrival) where
  pub begun : ¬ Holds setup history call MessageType → Clear setup history call (place malformed)
  begun refuted = pass setup history call MessageType (none_before setup history call) refuted

  pub read : (request : ValueOf ap_req) → IsMessage ap_req request call.bytes → Clear setup history call (place UserToUser)
  read request message = pass_malformed setup history call request message (begun (begins_so ap_req request call.bytes message))

  pub ordinary : (request : ValueOf ap_req) → IsMessage ap_req request call.bytes → ¬ HasBit (request_fields request).options use_session_key
      → Clear setup history call (place TicketEtype)
  ordinary request message refuted = pass setup history call UserToUser (read request message)
      (λ o. refuted (of_request facts call.bytes request (λ r. HasBit (request_fields r).options use_session_key) message o))

  pub asked : (request : ValueOf ap_req) → Asks call.bytes request → Clear setup history call (place NotUs)
  asked request asks = pass setup history call TicketEtype (ordinary request asks.message asks.ordinary)
      (λ o. of_request facts call.bytes request (λ r. ¬ IsKnown (encrypted_fields (sealed_ticket r)).etype) asks.message o asks.known)

  other_choice : (request : ValueOf ap_req) (one other : Choice) → (one ≡ other → ⊥) → IsChoiceFor setup request one → IsChoiceFor setup request other → ⊥
  other_choice request one other refuted h g = refuted (facts.one_choice setup request one other h g)

  pub named : (request : ValueOf ap_req) (choice : Choice) → (choice ≡ no_name → ⊥) → Asks call.bytes request → IsChoiceFor setup request choice
      → Clear setup history call (place NoKey)
  named request choice refuted asks h = pass setup history call NotUs (asked request asks)
      (λ o. other_choice request choice no_name refuted h (of_asked facts call.bytes request (λ r. IsChoiceFor setup r no_name) asks o))

  pub with_key : (request : ValueOf ap_req) (choice : Choice) → (choice ≡ no_name → ⊥) → (choice ≡ no_key → ⊥) → Asks call.bytes request
      → IsChoiceFor setup request choice → Clear setup history call (place BadKeyVersion)
  with_key request choice refuted refused asks h = pass setup history call NoKey (named request choice refuted asks h)
      (λ o. other_choice request choice no_key refused h (of_asked facts call.bytes request (λ r. IsChoiceFor setup r no_key) asks o))

  pub keyed : (request : ValueOf ap_req) (entry : KeytabEntry) → Keyed setup call.bytes request entry → Clear setup history call (place TicketIntegrity)
  keyed request entry k = pass setup history call BadKeyVersion
      (with_key request (chosen entry) (λ e. cc) (λ e. cc) k.asks k.chosen_is)
      (λ o. other_choice request (chosen entry) no_version (λ e. cc) k.chosen_is
      (of_asked facts call.bytes request (λ r. IsChoiceFor setup r no_version) k.asks o))

  pub ticketed : (request : ValueOf ap_req) (part : ValueOf enc_ticket_part) → Ticketed setup call.bytes request part → Clear setup history call (place SessionKey)
  ticketed request part t = pass setup history call TicketIntegrity (keyed request t.entry t.keyed)
      (not_shut facts setup call.bytes request part t)

  pub usable : (request : ValueOf ap_req) (part : ValueOf enc_ticket_part) → Ticketed setup call.bytes request part → IsUsable (session_key part)
      → Clear setup history call (place AuthenticatorIntegrity)
  usable request part t u = pass setup history call SessionKey (ticketed request part t)
      (λ o. of_ticket facts setup call.bytes request part (λ r p. ¬ IsUsable (session_key p)) t o u)

  pub authenticated : (request : ValueOf ap_req) (part : ValueOf enc_ticket_part) (auth : ValueOf authenticator)
      → Authenticated setup call.bytes request part auth → Clear setup history call (place BadMatch)
  authenticated request part auth a = pass setup history call AuthenticatorIntegrity (usable request part a.ticketed a.usable)
      (λ o. of_ticket facts setup call.bytes request part (λ r p. (x : ValueOf authenticator) → ¬ OpensAuthenticator r p x) a.ticketed o auth a.opens)

  pub opened : (request : ValueOf ap_req) (part : ValueOf enc_ticket_part) (auth : ValueOf authenticator)
      → OpenedAs setup call.bytes request part auth → Clear setup history call (place Skew)
  opened request part auth o = pass setup history call BadMatch (authenticated request part auth o.authenticated)
      (λ b. of_authenticator facts setup call.bytes request part auth (λ p a. ¬ SameClient p a) o.authenticated b o.same_client)
