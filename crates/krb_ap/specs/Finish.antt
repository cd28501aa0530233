-- What a client makes of bytes that arrive as the reply (RFC 4120, section 3.2.5): what it and the
-- service agree on, or why it refuses them.
use Rattle.std.specs.Prelude.{◌≡◌, ◌≢◌, ◌<◌, ℕ, ℤ, List, Option, Some, None}
use Rattle.std.specs.Option.{option_map}
use Rattle.krb_name.specs.declared.principal.Principal.{Principal}
use Rattle.krb_der.specs.Kind.{ValueOf, leaf, octets, tag_of}
use Rattle.krb_der.specs.Fault.{IsFault}
use Rattle.krb_der.specs.Spells.{IsMessage}
use Rattle.krb_enc.specs.Key.{KeyValue}
use Rattle.krb_msg.specs.Module.{ap_rep, enc_ap_rep_part, typed}
use Rattle.krb_msg.specs.Fields.{encrypted_fields, reply_enc_part, reply_fields}
use Rattle.krb_time.specs.Moments.{micros_of}
use Rattle.krb_msg.specs.Owned.{owned_key_of}
use Rattle.krb_ap.specs.Opened.{OpensAs}
use Rattle.krb_ap.specs.Causes.{BeginsOtherwise}
use Rattle.krb_ap.specs.Request.{Awaited}
use Rattle.krb_ap.specs.Reply.{reply_usage}
use Rattle.krb_ap.specs.declared.finish.Agreed.{Agreed}
use Rattle.krb_ap.specs.declared.finish.FinishFault.{FinishFault}
use Rattle.krb_ap.specs.declared.finish.FinishFault.TheVariants.{MessageType, Malformed, Integrity, Mismatch, OutOfMemory}

-- the session key is for the type that the reply is sealed with, and opens the reply to this part
pub record OpensReply (key : KeyValue) (reply : ValueOf ap_rep) (part : ValueOf enc_ap_rep_part) : Type 0 where
  pub same_type : (encrypted_fields (reply_enc_part reply)).etype ≡ key.etype
  pub opens : OpensAs key reply_usage (encrypted_fields (reply_enc_part reply)).cipher enc_ap_rep_part part

-- the bytes are a reply that opens to this part
pub record IsOpenedReply (awaited : Awaited) (bytes : List ℕ) (part : ValueOf enc_ap_rep_part) : Type 0 where
  pub reply : ValueOf ap_rep
  pub message : IsMessage ap_rep reply bytes
  pub opens : OpensReply awaited.key reply part

-- the bytes are a reply that is sealed for the session key's type
pub record IsReplyOfType (awaited : Awaited) (bytes : List ℕ) : Type 0 where
  pub reply : ValueOf ap_rep
  pub message : IsMessage ap_rep reply bytes
  pub same_type : (encrypted_fields (reply_enc_part reply)).etype ≡ awaited.key.etype

-- the client's moment, as the service repeats it
abbrev pub repeated_at : ValueOf enc_ap_rep_part → ℤ
repeated_at part = micros_of (reply_fields part).ctime (reply_fields part).cusec

-- ---- what both sides agree on

pub record Agreement : Type 0 where
  pub client : Principal
  pub key : KeyValue
  pub subkey : Option KeyValue
  pub seq : Option ℕ
  pub service_subkey : Option (ValueOf (typed (leaf octets)))
  pub service_seq : Option ℕ

-- what the client awaits, and what the service sent
abbrev pub agreement_for : Awaited → ValueOf enc_ap_rep_part → Agreement
agreement_for awaited part = record {
  client = awaited.client;
  key = awaited.key;
  subkey = awaited.subkey;
  seq = awaited.seq;
  service_subkey = (reply_fields part).subkey;
  service_seq = (reply_fields part).seq_number;
}

abbrev pub agreement_of : Agreed → Agreement
agreement_of x = record {
  client = x.client;
  key = x.session_key;
  subkey = x.subkey;
  seq = x.seq;
  service_subkey = option_map owned_key_of x.service_subkey;
  service_seq = x.service_seq;
}

-- the reply opens, and repeats the client's moment
pub record IsAgreed (awaited : Awaited) (bytes : List ℕ) (agreement : Agreement) : Type 0 where
  pub part : ValueOf enc_ap_rep_part
  pub opened : IsOpenedReply awaited bytes part
  pub same : repeated_at part ≡ awaited.at
  pub agreement_is : agreement ≡ agreement_for awaited part

-- ---- why the bytes are refused: a table; the first that holds is the answer

-- they are a reply that doesn't open
pub record IsReplyShut (awaited : Awaited) (bytes : List ℕ) : Type 0 where
  pub reply : ValueOf ap_rep
  pub message : IsMessage ap_rep reply bytes
  pub shut : (part : ValueOf enc_ap_rep_part) → ¬ OpensReply awaited.key reply part

-- the reply opens, and repeats another moment
pub record IsOfAnother (awaited : Awaited) (bytes : List ℕ) : Type 0 where
  pub part : ValueOf enc_ap_rep_part
  pub opened : IsOpenedReply awaited bytes part
  pub other : repeated_at part ≢ awaited.at

abbrev pub FinishHolds : Awaited → List ℕ → FinishFault → Type 0
FinishHolds awaited bytes MessageType = BeginsOtherwise (tag_of ap_rep) bytes
FinishHolds awaited bytes (Malformed fault) = ((reply : ValueOf ap_rep) → ¬ IsMessage ap_rep reply bytes) × IsFault ap_rep bytes fault
FinishHolds awaited bytes Integrity = IsReplyShut awaited bytes
FinishHolds awaited bytes Mismatch = IsOfAnother awaited bytes
FinishHolds awaited bytes OutOfMemory = ⊥

-- the order of the table
abbrev pub finish_place : FinishFault → ℕ
finish_place MessageType = 1
finish_place (Malformed fault) = 2
finish_place Integrity = 3
finish_place Mismatch = 4
finish_place OutOfMemory = 5

-- the offset that a fault reports
abbrev pub finish_offset_of : FinishFault → Option ℕ
finish_offset_of (Malformed fault) = Some fault.at
finish_offset_of _ = None

-- the first that holds
pub record FinishCause (awaited : Awaited) (bytes : List ℕ) (fault : FinishFault) : Type 0 where
  pub holds : FinishHolds awaited bytes fault
  pub first : (other : FinishFault) → finish_place other < finish_place fault → ¬ FinishHolds awaited bytes other
