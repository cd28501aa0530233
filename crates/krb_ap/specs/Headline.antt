-- When a service accepts the request that a client built, and what both then agree on (RFC 4120,
-- sections 3.2.2 and 3.2.3).
use Rattle.std.specs.Prelude.{◌≡◌, ℕ, ℤ, List}
use Rattle.std.specs.Option.{option_map}
use Rattle.krb_name.specs.Name.{SameName}
use Rattle.krb_name.specs.declared.principal.Principal.{Principal}
use Rattle.krb_der.specs.Kind.{ValueOf}
use Rattle.krb_der.specs.Spells.{IsMessage}
use Rattle.krb_msg.specs.Module.{ticket as ticket_kind, enc_ticket_part}
use Rattle.krb_msg.specs.Fields.{ticket_service, ticket_fields, encrypted_fields, part_client, part_fields}
use Rattle.krb_time.specs.Moments.{micros_of}
use Rattle.krb_keytab.specs.Entry.{KeytabEntry}
use Rattle.krb_keytab.specs.Pick.{chosen, IsChoice}
use Rattle.krb_ccache.specs.Value.{Cache}
use Rattle.krb_ccache.specs.declared.credential.Credential.{Credential}
use Rattle.krb_replay.specs.Stamp.{Stamp}
use Rattle.krb_ap.specs.Setup.{Setup, Arrival}
use Rattle.krb_ap.specs.Opened.{OpensAs, entry_key, session_key, stamp_at, ticket_usage}
use Rattle.krb_ap.specs.Times.{Near, Alive, IsEarly, IsLate, IsPathTrustedTo, MayBeIgnored}
use Rattle.krb_ap.specs.Quiet.{Settled}
use Rattle.krb_ap.specs.History.{effective, IsShown}
use Rattle.krb_ap.specs.Taken.{Taken}
use Rattle.krb_ap.specs.Written.{key_value}
use Rattle.krb_ap.specs.Credentials.{credential_key}
use Rattle.krb_ap.specs.Request.{Awaited, IsRequest}
use Rattle.krb_ap.specs.declared.request.RequestOptions.{RequestOptions}
use Rattle.krb_ap.specs.declared.refusal.Refusal.{Refusal}
use Rattle.krb_ap.specs.declared.refusal.Refusal.TheVariants.{Skew, JustStarted, Repeat, NotYetValid, Expired, Transited, Authorization}

-- the key that the keytab has for the credential's ticket opens it to this part, which has the
-- credential's client and key
pub record HasTicket (setup : Setup) (credential : Credential) (ticket : ValueOf ticket_kind) (part : ValueOf enc_ticket_part) : Type 0 where
  pub ticket_is : IsMessage ticket_kind ticket credential.ticket
  pub entry : KeytabEntry
  pub chosen_is : IsChoice setup.entries (ticket_service ticket) (encrypted_fields (ticket_fields ticket).enc_part).etype (encrypted_fields (ticket_fields ticket).enc_part).kvno (chosen entry)
  pub opens : OpensAs (entry_key entry) ticket_usage (encrypted_fields (ticket_fields ticket).enc_part).cipher enc_ticket_part part
  pub client : SameName (part_client part) credential.client
  pub key : session_key part ≡ credential_key credential

-- bytes that a client built as a request, with a ticket that a key of the service's keytab opens
pub record Built (setup : Setup) (bytes : List ℕ) : Type 0 where
  pub cache : Cache
  pub service : Principal
  pub at : ℤ
  pub confounder : List ℕ
  pub options : RequestOptions
  pub awaited : Awaited
  pub request : IsRequest cache service at confounder options bytes awaited
  pub ticket : ValueOf ticket_kind
  pub part : ValueOf enc_ticket_part
  pub has_ticket : HasTicket setup request.credential ticket part

-- what such a request is remembered by: the names of the ticket's service and client, and the
-- client's moment
abbrev pub built_stamp : {setup : Setup} {bytes : List ℕ} → Built setup bytes → Stamp
built_stamp built = stamp_at (ticket_service built.ticket) (part_client built.part) built.at

-- after a history the request's moment and the ticket's times are good, nothing else is asked of
-- the ticket, no request of these names and this moment was shown, and the quiet start is over
pub record MayBeTaken (setup : Setup) (history : List Arrival) (moment at : ℤ) (ticket : ValueOf ticket_kind) (part : ValueOf enc_ticket_part) : Type 0 where
  pub near : Near at (effective history moment) setup.skew
  pub alive : Alive part (effective history moment) setup.skew
  pub trusted : IsPathTrustedTo (ticket_service ticket) part
  pub ignorable : MayBeIgnored (part_fields part).authorization
  pub settled : Settled setup (effective history moment) at
  pub unshown : ¬ IsShown setup history (stamp_at (ticket_service ticket) (part_client part) at)

-- why it is refused: the same, each for itself
abbrev pub MayBeRefused : Setup → List Arrival → ℤ → ℤ → ValueOf ticket_kind → ValueOf enc_ticket_part → Refusal → Type 0
MayBeRefused setup history moment at ticket part Skew = ¬ Near at (effective history moment) setup.skew
MayBeRefused setup history moment at ticket part JustStarted = ¬ Settled setup (effective history moment) at
MayBeRefused setup history moment at ticket part Repeat = IsShown setup history (stamp_at (ticket_service ticket) (part_client part) at)
MayBeRefused setup history moment at ticket part NotYetValid = IsEarly part (effective history moment) setup.skew
MayBeRefused setup history moment at ticket part Expired = IsLate part (effective history moment) setup.skew
MayBeRefused setup history moment at ticket part Transited = ¬ IsPathTrustedTo (ticket_service ticket) part
MayBeRefused setup history moment at ticket part Authorization = ¬ MayBeIgnored (part_fields part).authorization
MayBeRefused setup history moment at ticket part _ = ⊥

-- what the service knows is what the client awaits: its own name (of the ticket's name type), key,
-- moment, subkey and sequence number
pub record Agrees (taken : Taken) (awaited : Awaited) : Type 0 where
  pub client : SameName taken.client awaited.client
  pub key : taken.session_key ≡ awaited.key
  pub at : micros_of taken.ctime taken.cusec ≡ awaited.at
  pub subkey : taken.subkey ≡ option_map key_value awaited.subkey
  pub seq : taken.seq ≡ awaited.seq
