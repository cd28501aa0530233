-- What is opened rests on the keytab's entries alone, and not on what else a service decides by.
use Rattle.std.proofs.Common.{◌≡◌, ℕ, List, subst}
use Rattle.krb_der.specs.Kind.{ValueOf}
use Rattle.krb_msg.specs.Module.{ap_req, enc_ticket_part, authenticator, ticket as ticket_kind}
use Rattle.krb_msg.specs.Fields.{ticket_fields, encrypted_fields, ticket_service}
use Rattle.krb_keytab.specs.Entry.{KeytabEntry}
use Rattle.krb_keytab.specs.Pick.{chosen, IsChoice}
use Rattle.krb_ccache.specs.declared.credential.Credential.{Credential}
use Rattle.krb_replay.specs.Stamp.{Stamp}
use Rattle.krb_ap.specs.Setup.{Setup}
use Rattle.krb_ap.specs.Opened.{OpenedAs, sealed_ticket, service_of}
use Rattle.krb_ap.specs.Once.{HasStamp}
use Rattle.krb_ap.specs.Headline.{HasTicket}

module _ (setup other : Setup) (same : setup.entries ≡ other.entries) where
  pub opened_by : (bytes : List ℕ) (request : ValueOf ap_req) (part : ValueOf enc_ticket_part) (auth : ValueOf authenticator)
      → OpenedAs setup bytes request part auth → OpenedAs other bytes request part auth
  opened_by bytes request part auth o = record {
    authenticated = record {
      ticketed = record {
        entry = o.authenticated.ticketed.entry;
        keyed = record {
          asks = o.authenticated.ticketed.keyed.asks;
          chosen_is = subst (λ (l : List KeytabEntry). IsChoice l (service_of request) (encrypted_fields (sealed_ticket request)).etype (encrypted_fields (sealed_ticket request)).kvno
              (chosen o.authenticated.ticketed.entry)) same o.authenticated.ticketed.keyed.chosen_is;
        };
        opens = o.authenticated.ticketed.opens;
      };
      usable = o.authenticated.usable;
      opens = o.authenticated.opens;
    };
    same_client = o.same_client;
  }

  pub has_stamp_by : (bytes : List ℕ) (stamp : Stamp) → HasStamp setup bytes stamp → HasStamp other bytes stamp
  has_stamp_by bytes stamp h = record {
    request = h.request;
    part = h.part;
    auth = h.auth;
    opened = opened_by bytes h.request h.part h.auth h.opened;
    stamp_is = h.stamp_is;
  }

  pub has_ticket_by : (credential : Credential) (ticket : ValueOf ticket_kind) (part : ValueOf enc_ticket_part)
      → HasTicket setup credential ticket part → HasTicket other credential ticket part
  has_ticket_by credential ticket part h = record {
    ticket_is = h.ticket_is;
    entry = h.entry;
    chosen_is = subst (λ (l : List KeytabEntry). IsChoice l (ticket_service ticket) (encrypted_fields (ticket_fields ticket).enc_part).etype (encrypted_fields (ticket_fields ticket).enc_part).kvno (chosen h.entry))
        same h.chosen_is;
    opens = h.opens;
    client = h.client;
    key = h.key;
  }
