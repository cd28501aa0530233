-- The request that a client builds with a credential (RFC 4120, sections 3.2.2 and 5.5.1), what it
-- keeps of the request, and why there is none.
use Rattle.std.specs.Prelude.{◌≡◌, ◌<◌, ◌+◌, ◌*◌, ◌/◌, ℕ, ℤ, List, [], Bool, true, false, Option, None}
use Rattle.std.specs.Option.{option_map}
use Rattle.krb_name.specs.declared.principal.Principal.{Principal}
use Rattle.krb_der.specs.Kind.{ValueOf}
use Rattle.krb_der.specs.Spells.{IsMessage}
use Rattle.krb_der.specs.Flags.{weight}
use Rattle.krb_enc.specs.Key.{KeyValue}
use Rattle.krb_gss.specs.Checksum.{checksum_type, with_front}
use Rattle.krb_msg.specs.Bits.{mutual_required}
use Rattle.krb_msg.specs.Module.{ap_req, authenticator, checksum as checksum_kind, ticket as ticket_kind}
use Rattle.krb_msg.specs.Fields.{authenticator_value, ap_req_value, encrypted_value, typed_value}
use Rattle.krb_time.specs.Moments.{micros_of}
use Rattle.krb_ccache.specs.Value.{Cache}
use Rattle.krb_ccache.specs.declared.credential.Credential.{Credential}
use Rattle.krb_ap.specs.Opened.{authenticator_usage}
use Rattle.krb_ap.specs.Written.{IsWritten, IsSealed, key_value}
use Rattle.krb_ap.specs.Credentials.{credential_key, IsUsed, IsWanting}
use Rattle.krb_ap.specs.declared.request.ContextRequest.{ContextRequest}
use Rattle.krb_ap.specs.declared.request.RequestOptions.{RequestOptions}
use Rattle.krb_ap.specs.declared.request.RequestFault.{RequestFault}
use Rattle.krb_ap.specs.declared.request.RequestFault.TheVariants.{NoCredential, NoUsableKey, Expired, BadTicket, TooLong, OutOfMemory}

-- the options of the request: mutual-required alone, or none
abbrev pub options_for : Bool → ℕ
options_for true = weight mutual_required
options_for false = 0

-- the flags of a client of GSS-API (RFC 4121, section 4.1.1.1): those that it chose but for the two
-- lowest. Delegation (1) isn't set, and mutual (2) is set if the request asks for a reply
abbrev pub context_flags : Bool → ℕ → ℕ
context_flags true flags = flags / 4 * 4 + 2
context_flags false flags = flags / 4 * 4

-- the checksum by which a client of GSS-API says what it asks for (RFC 4121, section 4.1.1): flags
-- and bindings, and nothing after them
abbrev pub context_checksum : Bool → ContextRequest → ValueOf checksum_kind
context_checksum is_mutual c = typed_value checksum_type (with_front (context_flags is_mutual c.flags) c.bindings [])

-- the authenticator: the credential's client, a time, and the subkey, the sequence number and the
-- context that the client chose; and no more
abbrev pub authenticator_for : Credential → ℤ → ℕ → RequestOptions → ValueOf authenticator
authenticator_for credential ctime cusec options = authenticator_value (record {
  client = credential.client;
  checksum = option_map (context_checksum options.mutual) options.context;
  cusec = cusec;
  ctime = ctime;
  subkey = option_map key_value options.subkey;
  seq_number = options.seq;
  authorization = None;
})

-- the bytes are that authenticator as it is written, with the moment as its whole second and the
-- microseconds after it
pub record IsPlain (credential : Credential) (at : ℤ) (options : RequestOptions) (plain : List ℕ) : Type 0 where
  pub ctime : ℤ
  pub cusec : ℕ
  pub at_is : at ≡ micros_of ctime cusec
  pub micros : cusec < 1_000_000
  pub plain_is : IsWritten authenticator (authenticator_for credential ctime cusec options) plain

-- a text is that authenticator, sealed under the credential's key
pub record IsAuthenticator (credential : Credential) (at : ℤ) (confounder : List ℕ) (options : RequestOptions) (text : List ℕ) : Type 0 where
  pub plain : List ℕ
  pub told : IsPlain credential at options plain
  pub text_is : IsSealed (credential_key credential) authenticator_usage confounder plain text

-- the request: the options, a ticket, and a sealed authenticator with the type of its key and
-- without a version number
abbrev pub request_for : Credential → RequestOptions → ValueOf ticket_kind → List ℕ → ValueOf ap_req
request_for credential options ticket text = ap_req_value (record {
  options = options_for options.mutual;
  ticket = ticket;
  authenticator = encrypted_value (record { etype = credential.etype; kvno = None; cipher = text });
})

-- the bytes are that request as it is written, with the credential's ticket and such an
-- authenticator
pub record IsBuilt (credential : Credential) (at : ℤ) (confounder : List ℕ) (options : RequestOptions) (bytes : List ℕ) : Type 0 where
  pub ticket : ValueOf ticket_kind
  pub ticket_is : IsMessage ticket_kind ticket credential.ticket
  pub text : List ℕ
  pub text_is : IsAuthenticator credential at confounder options text
  pub bytes_are : IsWritten ap_req (request_for credential options ticket text) bytes

-- what is kept until the reply comes: the credential's client and key, the moment, and the subkey
-- and the sequence number of the options
pub record Awaited : Type 0 where
  pub client : Principal
  pub key : KeyValue
  pub at : ℤ
  pub subkey : Option KeyValue
  pub seq : Option ℕ

abbrev pub awaited_for : Credential → ℤ → RequestOptions → Awaited
awaited_for credential at options = record {
  client = credential.client;
  key = credential_key credential;
  at = at;
  subkey = options.subkey;
  seq = options.seq;
}

-- the request is built with the credential that is used, and this is what is kept of it
pub record IsRequest (cache : Cache) (service : Principal) (at : ℤ) (confounder : List ℕ) (options : RequestOptions) (bytes : List ℕ)
    (awaited : Awaited) : Type 0 where
  pub credential : Credential
  pub used : IsUsed cache service at credential
  pub built : IsBuilt credential at confounder options bytes
  pub awaited_is : awaited ≡ awaited_for credential at options

-- the bytes that the used credential has as a ticket aren't a ticket
pub record HasBadTicket (cache : Cache) (service : Principal) (at : ℤ) : Type 0 where
  pub credential : Credential
  pub used : IsUsed cache service at credential
  pub bad : (ticket : ValueOf ticket_kind) → ¬ IsMessage ticket_kind ticket credential.ticket

-- those bytes are a ticket
pub record HasGoodTicket (cache : Cache) (service : Principal) (at : ℤ) : Type 0 where
  pub credential : Credential
  pub used : IsUsed cache service at credential
  pub ticket : ValueOf ticket_kind
  pub ticket_is : IsMessage ticket_kind ticket credential.ticket

-- they are a ticket, but no bytes are the request: it or its authenticator would be longer than
-- messages may be
pub record IsTooLong (cache : Cache) (service : Principal) (at : ℤ) (confounder : List ℕ) (options : RequestOptions) : Type 0 where
  pub credential : Credential
  pub used : IsUsed cache service at credential
  pub ticket : ValueOf ticket_kind
  pub ticket_is : IsMessage ticket_kind ticket credential.ticket
  pub unwritten : (bytes : List ℕ) → ¬ IsBuilt credential at confounder options bytes

-- why there is no request: each excludes the others
abbrev pub Prevents : Cache → Principal → ℤ → List ℕ → RequestOptions → RequestFault → Type 0
Prevents cache service at confounder options NoCredential = IsWanting cache service at NoCredential
Prevents cache service at confounder options NoUsableKey = IsWanting cache service at NoUsableKey
Prevents cache service at confounder options Expired = IsWanting cache service at Expired
Prevents cache service at confounder options BadTicket = HasBadTicket cache service at
Prevents cache service at confounder options TooLong = IsTooLong cache service at confounder options
Prevents cache service at confounder options OutOfMemory = ⊥
