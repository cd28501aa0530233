-- Why a service refuses an arrival: a table of causes. The first that holds is the answer. The
-- order is our own; the codes are of RFC 4120, section 7.5.9.
use Rattle.std.specs.Prelude.{◌≡◌, ◌≢◌, ◌<◌, ◌≤◌, ℕ, ℤ, Bool, true, false, IsTrue, List, ◌∷◌, length, Option, Some, None, IfSome, codes}
use Rattle.krb_der.specs.Kind.{ValueOf, tag_of}
use Rattle.krb_der.specs.Spells.{IsMessage}
use Rattle.krb_der.specs.Fault.{IsFault}
use Rattle.krb_der.specs.Flags.{HasBit}
use Rattle.krb_enc.specs.Key.{IsKnown, IsUsable}
use Rattle.krb_msg.specs.Bits.{use_session_key}
use Rattle.krb_msg.specs.Module.{ap_req, enc_ticket_part, authenticator}
use Rattle.krb_msg.specs.Fields.{request_fields, encrypted_fields}
use Rattle.krb_keytab.specs.Entry.{KeytabEntry}
use Rattle.krb_keytab.specs.Pick.{no_name, no_key, no_version}
use Rattle.krb_ap.specs.ErrorCodes.{kdc_err_etype_nosupp, krb_ap_err_bad_integrity, krb_ap_err_tkt_expired, krb_ap_err_tkt_nyv, krb_ap_err_repeat, krb_ap_err_not_us, krb_ap_err_badmatch, krb_ap_err_skew, krb_ap_err_msg_type, krb_ap_err_badkeyver, krb_ap_err_nokey, krb_err_generic}
use Rattle.krb_ap.specs.Setup.{Setup, Arrival, decided_now}
use Rattle.krb_ap.specs.Opened.{Asks, Keyed, Ticketed, Authenticated, OpenedAs, OpensAs, OpensAuthenticator, SameClient, IsChoiceFor, sealed_ticket, session_key, entry_key, ticket_usage, sent_at, stamp_of}
use Rattle.krb_ap.specs.Times.{Near, IsEarly, IsLate, IsPathTrusted, IsDataIgnorable}
use Rattle.krb_ap.specs.Quiet.{Settled}
use Rattle.krb_ap.specs.History.{effective, IsShown}
use Rattle.krb_ap.specs.declared.refusal.Refusal.{Refusal}
use Rattle.krb_ap.specs.declared.refusal.Refusal.TheVariants.{MessageType, Malformed, UserToUser, TicketEtype, NotUs, NoKey, BadKeyVersion, TicketIntegrity, SessionKey, AuthenticatorIntegrity, BadMatch, Skew, JustStarted, Repeat, NotYetValid, Expired, Transited, Authorization, OutOfMemory}

-- ---- what each cause says of what the causes before it let through

-- there is a first byte, and it isn't this one
pub record BeginsOtherwise (tag : ℕ) (bytes : List ℕ) : Type 0 where
  pub first : ℕ
  pub rest : List ℕ
  pub bytes_are : bytes ≡ first ∷ rest
  pub other : first ≢ tag

-- the bytes spell some request, and this holds of it
pub record OfRequest (bytes : List ℕ) (P : ValueOf ap_req → Type 0) : Type 0 where
  pub request : ValueOf ap_req
  pub message : IsMessage ap_req request bytes
  pub holds : P request

-- the bytes are a request of the ordinary kind, and this holds of it
pub record OfAsked (bytes : List ℕ) (P : ValueOf ap_req → Type 0) : Type 0 where
  pub request : ValueOf ap_req
  pub asks : Asks bytes request
  pub holds : P request

-- the chosen key opens the ticket to something other than a ticket's sealed part, or to nothing
pub record IsTicketShut (setup : Setup) (bytes : List ℕ) : Type 0 where
  pub request : ValueOf ap_req
  pub entry : KeytabEntry
  pub keyed : Keyed setup bytes request entry
  pub shut : (part : ValueOf enc_ticket_part) → ¬ OpensAs (entry_key entry) ticket_usage (encrypted_fields (sealed_ticket request)).cipher enc_ticket_part part

-- the ticket is opened, and this holds of it
pub record OfTicket (setup : Setup) (bytes : List ℕ) (P : ValueOf ap_req → ValueOf enc_ticket_part → Type 0) : Type 0 where
  pub request : ValueOf ap_req
  pub part : ValueOf enc_ticket_part
  pub ticketed : Ticketed setup bytes request part
  pub holds : P request part

-- the authenticator is opened, and this holds of it
pub record OfAuthenticator (setup : Setup) (bytes : List ℕ) (P : ValueOf enc_ticket_part → ValueOf authenticator → Type 0) : Type 0 where
  pub request : ValueOf ap_req
  pub part : ValueOf enc_ticket_part
  pub auth : ValueOf authenticator
  pub authenticated : Authenticated setup bytes request part auth
  pub holds : P part auth

-- the request is opened, and this holds of it
pub record OfOpened (setup : Setup) (bytes : List ℕ) (P : ValueOf ap_req → ValueOf enc_ticket_part → ValueOf authenticator → Type 0) : Type 0 where
  pub request : ValueOf ap_req
  pub part : ValueOf enc_ticket_part
  pub auth : ValueOf authenticator
  pub opened : OpenedAs setup bytes request part auth
  pub holds : P request part auth

-- ---- the table

-- A row: its place in the order, its name, its error code (none: no error is sent), whether a
-- request that is refused for it is remembered, and what must hold. Places leave room, so a row can
-- be put between two others without moving any.
pub record Row : Type 1 where
  pub place : ℕ
  pub name : List ℕ
  pub code : Option ℤ
  pub remembered : Bool
  pub holds : Setup → List Arrival → Arrival → Type 0

abbrev pub row_of : ℕ → List ℕ → Option ℤ → Bool → (Setup → List Arrival → Arrival → Type 0) → Row
row_of place name code remembered holds = record { place = place; name = name; code = code; remembered = remembered; holds = holds }

-- The codes are RFC 4120's. If the RFC names none for a cause, the choice is ours: KRB_ERR_GENERIC
-- for malformed requests and for what we don't look at, KDC_ERR_ETYPE_NOSUPP for types that we
-- don't know, KRB_AP_ERR_NOKEY for user-to-user requests. A wrong version number or a wrong message
-- type after a good tag is malformed here, though RFC 4120 has KRB_AP_ERR_BADVERSION and
-- KRB_AP_ERR_MSG_TYPE for them. KRB_AP_ERR_NOKEY for a missing key is the RFC's own (3.2.3).
abbrev pub row : Refusal → Row
row MessageType = row_of 100 (codes "MessageType") (Some krb_ap_err_msg_type) false (λ setup history call. BeginsOtherwise (tag_of ap_req) call.bytes)
row (Malformed fault) = row_of 200 (codes "Malformed") (Some krb_err_generic) false
    (λ setup history call. ((request : ValueOf ap_req) → ¬ IsMessage ap_req request call.bytes) × IsFault ap_req call.bytes fault)
row UserToUser = row_of 300 (codes "UserToUser") (Some krb_ap_err_nokey) false
    (λ setup history call. OfRequest call.bytes (λ request. HasBit (request_fields request).options use_session_key))
row TicketEtype = row_of 400 (codes "TicketEtype") (Some kdc_err_etype_nosupp) false
    (λ setup history call. OfRequest call.bytes (λ request. ¬ IsKnown (encrypted_fields (sealed_ticket request)).etype))
row NotUs = row_of 500 (codes "NotUs") (Some krb_ap_err_not_us) false
    (λ setup history call. OfAsked call.bytes (λ request. IsChoiceFor setup request no_name))
row NoKey = row_of 600 (codes "NoKey") (Some krb_ap_err_nokey) false
    (λ setup history call. OfAsked call.bytes (λ request. IsChoiceFor setup request no_key))
row BadKeyVersion = row_of 700 (codes "BadKeyVersion") (Some krb_ap_err_badkeyver) false
    (λ setup history call. OfAsked call.bytes (λ request. IsChoiceFor setup request no_version))
row TicketIntegrity = row_of 800 (codes "TicketIntegrity") (Some krb_ap_err_bad_integrity) false (λ setup history call. IsTicketShut setup call.bytes)
row SessionKey = row_of 900 (codes "SessionKey") (Some kdc_err_etype_nosupp) false
    (λ setup history call. OfTicket setup call.bytes (λ request part. ¬ IsUsable (session_key part)))
row AuthenticatorIntegrity = row_of 1_000 (codes "AuthenticatorIntegrity") (Some krb_ap_err_bad_integrity) false
    (λ setup history call. OfTicket setup call.bytes (λ request part. (auth : ValueOf authenticator) → ¬ OpensAuthenticator request part auth))
row BadMatch = row_of 1_100 (codes "BadMatch") (Some krb_ap_err_badmatch) false
    (λ setup history call. OfAuthenticator setup call.bytes (λ part auth. ¬ SameClient part auth))
row Skew = row_of 1_200 (codes "Skew") (Some krb_ap_err_skew) false
    (λ setup history call. OfOpened setup call.bytes (λ request part auth. ¬ Near (sent_at auth) (effective history call.moment) setup.skew))
row JustStarted = row_of 1_250 (codes "JustStarted") (Some krb_ap_err_skew) true
    (λ setup history call. OfOpened setup call.bytes (λ request part auth. ¬ Settled setup (effective history call.moment) (sent_at auth)))
row Repeat = row_of 1_300 (codes "Repeat") (Some krb_ap_err_repeat) false
    (λ setup history call. OfOpened setup call.bytes (λ request part auth. IsShown setup history (stamp_of request part auth)))
row NotYetValid = row_of 1_400 (codes "NotYetValid") (Some krb_ap_err_tkt_nyv) true
    (λ setup history call. OfOpened setup call.bytes (λ request part auth. IsEarly part (effective history call.moment) setup.skew))
row Expired = row_of 1_500 (codes "Expired") (Some krb_ap_err_tkt_expired) true
    (λ setup history call. OfOpened setup call.bytes (λ request part auth. IsLate part (effective history call.moment) setup.skew))
row Transited = row_of 1_600 (codes "Transited") (Some krb_err_generic) true
    (λ setup history call. OfOpened setup call.bytes (λ request part auth. ¬ IsPathTrusted request part))
row Authorization = row_of 1_700 (codes "Authorization") (Some krb_err_generic) true
    (λ setup history call. OfOpened setup call.bytes (λ request part auth. ¬ IsDataIgnorable part auth))
row OutOfMemory = row_of 1_800 (codes "OutOfMemory") None false (λ setup history call. ⊥)

-- ---- what follows from the rows

abbrev pub Holds : Setup → List Arrival → Arrival → Refusal → Type 0
Holds setup history call refusal = (row refusal).holds setup history (decided_now call)

abbrev pub place : Refusal → ℕ
place refusal = (row refusal).place

abbrev pub name_of : Refusal → List ℕ
name_of refusal = (row refusal).name

abbrev pub code_of : Refusal → Option ℤ
code_of refusal = (row refusal).code

abbrev pub IsRemembered : Refusal → Type 0
IsRemembered refusal = IsTrue (row refusal).remembered

-- the offset that a refusal reports
abbrev pub offset_of : Refusal → Option ℕ
offset_of (Malformed fault) = Some fault.at
offset_of _ = None

-- it is the place of one of the bytes, or their end
abbrev pub TellsPlaceWithin : List ℕ → Refusal → Type 0
TellsPlaceWithin bytes refusal = IfSome (offset_of refusal) (λ at. at ≤ length bytes)

-- the first cause that holds
pub record IsFirst (setup : Setup) (history : List Arrival) (call : Arrival) (refusal : Refusal) : Type 0 where
  pub holds : Holds setup history call refusal
  pub first : (other : Refusal) → place other < place refusal → ¬ Holds setup history call other

abbrev pub Cause : Setup → List Arrival → Arrival → Refusal → Type 0
Cause setup history call refusal = IsFirst setup history (decided_now call) refusal
