-- The words of private contracts: what the stages of a decision say.
use Rattle.std.specs.Prelude.{◌≡◌, ◌⊎◌, ℕ, ℤ, List, Result, Ok, Err}
use Rattle.krb_name.specs.declared.principal.Principal.{Principal}
use Rattle.krb_der.specs.Kind.{Kind, ValueOf}
use Rattle.krb_der.specs.Spells.{IsMessage}
use Rattle.krb_enc.specs.Key.{KeyValue, UsageKeyValue, profile_of}
use Rattle.krb_enc.specs.Opens.{Opens}
use Rattle.krb_msg.specs.Module.{ap_req, encrypted_data, enc_ticket_part, authenticator}
use Rattle.krb_msg.specs.Borrowed.{key_of}
use Rattle.krb_msg.specs.Fields.{encrypted_fields, type_of, bytes_of}
use Rattle.krb_msg.specs.declared.key.KeyRef.{KeyRef}
use Rattle.krb_keytab.specs.Entry.{KeytabEntry}
use Rattle.krb_keytab.specs.Pick.{no_name, no_key, no_version, IsChoice}
use Rattle.krb_ap.specs.Setup.{Setup, Arrival, arrival}
use Rattle.krb_ap.specs.Opened.{sent_at, ticket_usage}
use Rattle.krb_ap.specs.Quiet.{Settled}
use Rattle.krb_ap.specs.Taken.{IsTakenFrom}
use Rattle.krb_ap.specs.Answer.{taken_of}
use Rattle.krb_ap.specs.Times.{IsEarly, IsLate, IsPathTrusted, IsDataIgnorable}
use Rattle.krb_ap.specs.Causes.{Cause}
use Rattle.krb_ap.specs.declared.accepted.Accepted.{Accepted}
use Rattle.krb_ap.specs.declared.refusal.Refusal.{Refusal}
use Rattle.krb_ap.specs.declared.refusal.Refusal.TheVariants.{NotUs, NoKey, BadKeyVersion, JustStarted, NotYetValid, Expired, Transited, Authorization}

-- a cause that rests on the bytes alone, and one that rests on what the service decides by too
abbrev pub IsCauseOfBytes : List ℕ → Refusal → Type 0
IsCauseOfBytes bytes refusal = (setup : Setup) (history : List Arrival) (moment : ℤ) → Cause setup history (arrival bytes moment) refusal

-- the bytes are a message of the kind with no value
abbrev pub IsNone : Kind → List ℕ → Type 0
IsNone k bytes = (value : ValueOf k) → ¬ IsMessage k value bytes

-- a service key's keys for tickets
abbrev pub ready_key : KeyValue → UsageKeyValue
ready_key key = record { key = key; usage = ticket_usage }

-- a message's key
abbrev pub key_in : KeyRef → KeyValue
key_in key = record { etype = type_of (key_of key); bytes = bytes_of (key_of key) }

-- what is missing, as a refusal
abbrev pub Wants : List KeytabEntry → Principal → ValueOf encrypted_data → Refusal → Type 0
Wants entries name text refusal =
    ((refusal ≡ NotUs) × IsChoice entries name (encrypted_fields text).etype (encrypted_fields text).kvno no_name)
    ⊎ (((refusal ≡ NoKey) × IsChoice entries name (encrypted_fields text).etype (encrypted_fields text).kvno no_key)
    ⊎ ((refusal ≡ BadKeyVersion) × IsChoice entries name (encrypted_fields text).etype (encrypted_fields text).kvno no_version))

-- nothing opens
abbrev pub IsShut : KeyValue → ℕ → List ℕ → Type 0
IsShut key usage cipher = (plain : List ℕ) → ¬ Opens (profile_of key) key.bytes usage cipher plain

-- why a near and new request is refused all the same: the first of these
pub record IsOfTimes (skew : ℕ) (now : ℤ) (request : ValueOf ap_req) (part : ValueOf enc_ticket_part) (auth : ValueOf authenticator) : Type 0 where
  pub early : ¬ IsEarly part now skew
  pub late : ¬ IsLate part now skew
  pub trusted : IsPathTrusted request part
  pub ignorable : IsDataIgnorable part auth

abbrev pub TimesRefuse : ℕ → ℤ → ValueOf ap_req → ValueOf enc_ticket_part → ValueOf authenticator → Refusal → Type 0
TimesRefuse skew now request part auth refusal =
    ((refusal ≡ NotYetValid) × IsEarly part now skew)
    ⊎ (((refusal ≡ Expired) × ((¬ IsEarly part now skew) × IsLate part now skew))
    ⊎ (((refusal ≡ Transited) × ((¬ IsEarly part now skew) × ((¬ IsLate part now skew) × (¬ IsPathTrusted request part))))
    ⊎ ((refusal ≡ Authorization) × ((¬ IsEarly part now skew) × ((¬ IsLate part now skew) × (IsPathTrusted request part × (¬ IsDataIgnorable part auth)))))))

-- a new request that isn't refused all the same: the quiet start is over, and its times and ticket
-- are good
abbrev pub IsInTime : Setup → ℤ → ValueOf ap_req → ValueOf enc_ticket_part → ValueOf authenticator → Type 0
IsInTime setup now request part auth = Settled setup now (sent_at auth) × IsOfTimes setup.skew now request part auth

-- one that is
abbrev pub RefusesNew : Setup → ℤ → ValueOf ap_req → ValueOf enc_ticket_part → ValueOf authenticator → Refusal → Type 0
RefusesNew setup now request part auth refusal =
    ((refusal ≡ JustStarted) × (¬ Settled setup now (sent_at auth))) ⊎ (Settled setup now (sent_at auth) × TimesRefuse setup.skew now request part auth refusal)

-- the answer to a new request
abbrev pub AnswersNew : Setup → ℤ → ValueOf ap_req → ValueOf enc_ticket_part → ValueOf authenticator → Result Accepted Refusal → Type 0
AnswersNew setup now request part auth (Ok accepted) = IsInTime setup now request part auth × IsTakenFrom request part auth (taken_of accepted)
AnswersNew setup now request part auth (Err refusal) = RefusesNew setup now request part auth refusal
