-- What contracts see of the causes that were found, and of what is seen of a request.
use Rattle.std.specs.Prelude.{Bool}
use Rattle.krb_ap.specs.declared.refusal.Refusal.{Refusal}
use Rattle.krb_explain_keys.specs.Seen.{AuthenticatorCauses, RequestCauses, Sight, TicketCauses}
use Rattle.krb_explain_keys.specs.declared.causes.Looked.{Looked}
use Rattle.krb_explain_keys.specs.declared.sight.Seen.{Seen}
use Rattle.krb_explain_keys.specs.declared.standing.AuthenticatorStanding.{AuthenticatorStanding}
use Rattle.krb_explain_keys.specs.declared.standing.RequestStanding.{RequestStanding}
use Rattle.krb_explain_keys.specs.declared.standing.TicketStanding.{TicketStanding}

abbrev pub request_causes : RequestStanding → RequestCauses
request_causes s = record { other_type = s.other_type; no_name = s.no_name; no_key = s.no_key; no_version = s.no_version }

abbrev pub ticket_causes : TicketStanding → TicketCauses
ticket_causes s = record { shut = s.shut; early = s.early; late = s.late; untrusted = s.untrusted }

abbrev pub authenticator_causes : AuthenticatorStanding → AuthenticatorCauses
authenticator_causes s = record { unusable = s.unusable; shut = s.shut; mismatched = s.mismatched; skewed = s.skewed; unignorable = s.unignorable }

abbrev pub sight_of : Seen → Sight
sight_of s = record {
  lines = s.lines.items;
  of_request = request_causes s.of_request;
  of_ticket = ticket_causes s.of_ticket;
  of_authenticator = authenticator_causes s.of_authenticator;
}

-- a cause, and whether it holds
abbrev pub looked_of : Looked → Refusal × Bool
looked_of l = (l.0, l.1)
