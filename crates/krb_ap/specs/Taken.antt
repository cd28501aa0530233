-- What a service accepts, and what it then knows (RFC 4120, section 3.2.3).
use Rattle.std.specs.Prelude.{◌≡◌, ◌↔◌, ℕ, ℤ, List, Option, Bool, IsTrue}
use Rattle.krb_name.specs.declared.principal.Principal.{Principal}
use Rattle.krb_der.specs.Kind.{leaf, octets, ValueOf}
use Rattle.krb_der.specs.Flags.{HasBit}
use Rattle.krb_enc.specs.Key.{KeyValue}
use Rattle.krb_msg.specs.Bits.{mutual_required}
use Rattle.krb_msg.specs.Module.{typed, ap_req, enc_ticket_part, authenticator}
use Rattle.krb_msg.specs.Fields.{request_fields, part_client, part_fields, authenticator_fields, part_times}
use Rattle.krb_ap.specs.Setup.{Setup, Arrival}
use Rattle.krb_time.specs.Moments.{micros_of}
use Rattle.krb_replay.specs.Stamp.{Stamp}
use Rattle.krb_ap.specs.Opened.{OpenedAs, service_of, session_key, sent_at, stamp_at, stamp_of}
use Rattle.krb_ap.specs.Times.{Near, Alive, IsPathTrusted, IsDataIgnorable}
use Rattle.krb_ap.specs.Quiet.{Settled}
use Rattle.krb_ap.specs.History.{effective, IsShown}

-- What is known of an accepted request. From the ticket: client and service (its realm and sname,
-- whichever entry of the keytab has the key), session key, flags, transited encoding (its type and
-- contents), times, addresses and authorization data. From the authenticator: subkey, sequence
-- number, checksum, authorization data and time. And whether a reply is asked for. Times are whole
-- seconds since 1970-01-01T00:00:00Z; cusec is the microseconds of ctime.
pub record Taken : Type 0 where
  pub client : Principal
  pub service : Principal
  pub session_key : KeyValue
  pub flags : ℕ
  pub transited : ValueOf (typed (leaf octets))
  pub authtime : ℤ
  pub starttime : Option ℤ
  pub endtime : ℤ
  pub addresses : Option (List (ValueOf (typed (leaf octets))))
  pub ticket_authorization : Option (List (ValueOf (typed (leaf octets))))
  pub subkey : Option (ValueOf (typed (leaf octets)))
  pub seq : Option ℕ
  pub checksum : Option (ValueOf (typed (leaf octets)))
  pub authenticator_authorization : Option (List (ValueOf (typed (leaf octets))))
  pub ctime : ℤ
  pub cusec : ℕ
  pub wants_reply : Bool

-- what the service remembers of it
abbrev pub taken_stamp : Taken → Stamp
taken_stamp taken = stamp_at taken.service taken.client (micros_of taken.ctime taken.cusec)

-- the request asks for a reply
abbrev pub IsMutual : ValueOf ap_req → Type 0
IsMutual request = HasBit (request_fields request).options mutual_required

abbrev pub taken_from : ValueOf ap_req → ValueOf enc_ticket_part → ValueOf authenticator → Bool → Taken
taken_from request part auth wants_reply = record {
  client = part_client part;
  service = service_of request;
  session_key = session_key part;
  flags = (part_fields part).flags;
  transited = (part_fields part).transited;
  authtime = (part_times part).authtime;
  starttime = (part_times part).starttime;
  endtime = (part_times part).endtime;
  addresses = (part_fields part).caddr;
  ticket_authorization = (part_fields part).authorization;
  subkey = (authenticator_fields auth).subkey;
  seq = (authenticator_fields auth).seq_number;
  checksum = (authenticator_fields auth).checksum;
  authenticator_authorization = (authenticator_fields auth).authorization;
  ctime = (authenticator_fields auth).ctime;
  cusec = (authenticator_fields auth).cusec;
  wants_reply = wants_reply;
}

-- this is what is known of a request that is opened so
pub record IsTakenFrom (request : ValueOf ap_req) (part : ValueOf enc_ticket_part) (auth : ValueOf authenticator) (taken : Taken) : Type 0 where
  pub told : taken ≡ taken_from request part auth taken.wants_reply
  pub wants_reply : IsTrue taken.wants_reply ↔ IsMutual request

-- After a history, bytes that arrive at a moment are accepted, and this is what is then known: they
-- are opened, near, alive, trusted and not shown before, and the quiet start is over.
pub record IsAccepted (setup : Setup) (history : List Arrival) (bytes : List ℕ) (moment : ℤ) (taken : Taken) : Type 0 where
  pub request : ValueOf ap_req
  pub part : ValueOf enc_ticket_part
  pub auth : ValueOf authenticator
  pub opened : OpenedAs setup bytes request part auth
  pub near : Near (sent_at auth) (effective history moment) setup.skew
  pub settled : Settled setup (effective history moment) (sent_at auth)
  pub unshown : ¬ IsShown setup history (stamp_of request part auth)
  pub alive : Alive part (effective history moment) setup.skew
  pub trusted : IsPathTrusted request part
  pub ignorable : IsDataIgnorable part auth
  pub taken_is : IsTakenFrom request part auth taken

abbrev pub Accept : Setup → List Arrival → Arrival → Taken → Type 0
Accept setup history call taken = IsAccepted setup history call.bytes call.moment taken
