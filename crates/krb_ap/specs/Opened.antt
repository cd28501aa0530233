-- What a request is opened as (RFC 4120, sections 3.2.2 and 3.2.3), in stages: what it asks for,
-- the keytab's key that it is for, the ticket that opens under that key, and the authenticator that
-- opens under the ticket's session key. Nothing is decrypted here: a text opens to what was sealed
-- to it.
use Rattle.std.specs.Prelude.{◌≡◌, ℕ, ℤ, List}
use Rattle.krb_name.specs.Name.{SameName}
use Rattle.krb_name.specs.declared.principal.Principal.{Principal}
use Rattle.krb_der.specs.Kind.{Kind, ValueOf}
use Rattle.krb_der.specs.Spells.{IsMessage}
use Rattle.krb_enc.specs.Key.{KeyValue, IsKnown, IsUsable, profile_of}
use Rattle.krb_enc.specs.Opens.{Opens}
use Rattle.krb_msg.specs.Module.{ap_req, encrypted_data, enc_ticket_part, authenticator}
use Rattle.krb_msg.specs.Fields.{request_fields, ticket_fields, encrypted_fields, part_fields, type_of, bytes_of, ticket_service, part_client, authenticator_client, authenticator_fields}
use Rattle.krb_time.specs.Moments.{micros_of}
use Rattle.krb_der.specs.Flags.{HasBit}
use Rattle.krb_msg.specs.Bits.{use_session_key}
use Rattle.krb_keytab.specs.Entry.{KeytabEntry}
use Rattle.krb_keytab.specs.Pick.{Choice, chosen, IsChoice}
use Rattle.krb_keytab.specs.Size.{IsNoLarger}
use Rattle.krb_replay.specs.Stamp.{Stamp, name_of}
use Rattle.krb_ap.specs.Setup.{Setup}

-- the key usages of a request (RFC 4120, section 7.5.1); specs/Reply has that of a reply
abbrev pub ticket_usage : ℕ
ticket_usage = 2

abbrev pub authenticator_usage : ℕ
authenticator_usage = 11

-- a sealed text opens under a key for a usage to a message of this kind and value
pub record OpensAs (key : KeyValue) (usage : ℕ) (cipher : List ℕ) (k : Kind) (value : ValueOf k) : Type 0 where
  pub plain : List ℕ
  pub opens : Opens (profile_of key) key.bytes usage cipher plain
  pub message : IsMessage k value plain

-- the sealed part of the request's ticket, and the key of an entry and of a ticket's sealed part
abbrev pub sealed_ticket : ValueOf ap_req → ValueOf encrypted_data
sealed_ticket request = (ticket_fields (request_fields request).ticket).enc_part

abbrev pub service_of : ValueOf ap_req → Principal
service_of request = ticket_service (request_fields request).ticket

abbrev pub entry_key : KeytabEntry → KeyValue
entry_key entry = record { etype = entry.etype; bytes = entry.key }

abbrev pub session_key : ValueOf enc_ticket_part → KeyValue
session_key part = record { etype = type_of (part_fields part).key; bytes = bytes_of (part_fields part).key }

-- the choice of a key for the request's ticket
abbrev pub IsChoiceFor : Setup → ValueOf ap_req → Choice → Type 0
IsChoiceFor setup request choice =
    IsChoice setup.entries (service_of request) (encrypted_fields (sealed_ticket request)).etype (encrypted_fields (sealed_ticket request)).kvno choice

-- the bytes are a request of the ordinary kind (not user-to-user), with a ticket of a known
-- encryption type
pub record Asks (bytes : List ℕ) (request : ValueOf ap_req) : Type 0 where
  pub message : IsMessage ap_req request bytes
  pub ordinary : ¬ HasBit (request_fields request).options use_session_key
  pub known : IsKnown (encrypted_fields (sealed_ticket request)).etype

-- they are such a request, whatever it says
abbrev pub IsOrdinary : List ℕ → Type 0
IsOrdinary bytes = (request : ValueOf ap_req) × Asks bytes request

-- and its ticket is for this service
abbrev pub AsksFor : List ℕ → Principal → Type 0
AsksFor bytes service = (request : ValueOf ap_req) × (Asks bytes request × (service ≡ service_of request))

-- and the name of that service is no larger than the largest of the keytab
abbrev pub AsksWithin : Setup → List ℕ → Type 0
AsksWithin setup bytes = (request : ValueOf ap_req) × (Asks bytes request × IsNoLarger setup.entries (service_of request))

-- and this entry of the keytab is chosen for its ticket
pub record Keyed (setup : Setup) (bytes : List ℕ) (request : ValueOf ap_req) (entry : KeytabEntry) : Type 0 where
  pub asks : Asks bytes request
  pub chosen_is : IsChoiceFor setup request (chosen entry)

-- and its key opens the ticket
pub record Ticketed (setup : Setup) (bytes : List ℕ) (request : ValueOf ap_req) (part : ValueOf enc_ticket_part) : Type 0 where
  pub entry : KeytabEntry
  pub keyed : Keyed setup bytes request entry
  pub opens : OpensAs (entry_key entry) ticket_usage (encrypted_fields (sealed_ticket request)).cipher enc_ticket_part part

-- the session key is for the type that the authenticator is sealed with, and opens it
pub record OpensAuthenticator (request : ValueOf ap_req) (part : ValueOf enc_ticket_part) (auth : ValueOf authenticator) : Type 0 where
  pub same_type : (encrypted_fields (request_fields request).authenticator).etype ≡ (session_key part).etype
  pub opens : OpensAs (session_key part) authenticator_usage (encrypted_fields (request_fields request).authenticator).cipher authenticator auth

-- and the session key is usable, and opens the authenticator
pub record Authenticated (setup : Setup) (bytes : List ℕ) (request : ValueOf ap_req) (part : ValueOf enc_ticket_part)
    (auth : ValueOf authenticator) : Type 0 where
  pub ticketed : Ticketed setup bytes request part
  pub usable : IsUsable (session_key part)
  pub opens : OpensAuthenticator request part auth

abbrev pub SameClient : ValueOf enc_ticket_part → ValueOf authenticator → Type 0
SameClient part auth = SameName (part_client part) (authenticator_client auth)

-- and both name the same client: this is what the request is opened as
pub record OpenedAs (setup : Setup) (bytes : List ℕ) (request : ValueOf ap_req) (part : ValueOf enc_ticket_part)
    (auth : ValueOf authenticator) : Type 0 where
  pub authenticated : Authenticated setup bytes request part auth
  pub same_client : SameClient part auth

-- the client's moment; and what a request is remembered by: the names of server and client, and the
-- client's moment
abbrev pub sent_at : ValueOf authenticator → ℤ
sent_at auth = micros_of (authenticator_fields auth).ctime (authenticator_fields auth).cusec

abbrev pub stamp_at : Principal → Principal → ℤ → Stamp
stamp_at server client time = record { server = name_of server; client = name_of client; time = time }

abbrev pub stamp_of : ValueOf ap_req → ValueOf enc_ticket_part → ValueOf authenticator → Stamp
stamp_of request part auth = stamp_at (service_of request) (part_client part) (sent_at auth)
