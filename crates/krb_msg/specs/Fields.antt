-- Made from messages.toml by tools/generate/messages.py. Don't edit this file.
-- The values of messages by the names of their fields (RFC 4120, sections 5.2 to 5.9): a record of the
-- fields that vary, with a principal for a realm and a name; what it is for a value; and the value that it
-- makes, which nests the fields in pairs, in the order of their numbers, with a tt for each constant.
use Rattle.std.specs.Prelude.{ℕ, ℤ, List, Option}
use Rattle.krb_name.specs.declared.principal.Principal.{Principal}
use Rattle.krb_der.specs.Kind.{leaf, octets, ValueOf}
use Rattle.krb_msg.specs.Module.{encrypted_data, ticket, authenticator, enc_ticket_part, ap_req, ap_rep, enc_ap_rep_part, krb_error, typed, principal_name, encryption_key, checksum, transited_encoding}
use Rattle.krb_msg.specs.Parts.{◌▸◌, principal_in, principal_name_of}
pub use Rattle.krb_msg.specs.Parts.{◌▸◌, name_value, name_type_of, components_of, principal_in, principal_name_of, typed_value, type_of, bytes_of}

-- ---- EncryptedData (section 5.2.9)
pub record EncryptedFields : Type 0 where
  pub etype : ℤ
  pub kvno : Option ℕ
  pub cipher : List ℕ

abbrev pub encrypted_value : EncryptedFields → ValueOf encrypted_data
encrypted_value f = f.etype ▸ f.kvno ▸ f.cipher ▸ tt

abbrev pub encrypted_fields : ValueOf encrypted_data → EncryptedFields
encrypted_fields v = record { etype = v.0; kvno = v.1.0; cipher = v.1.1.0 }

-- ---- Ticket (section 5.3)
pub record TicketFields : Type 0 where
  pub service : Principal
  pub enc_part : ValueOf encrypted_data

abbrev pub ticket_value : TicketFields → ValueOf ticket
ticket_value f = tt ▸ f.service.realm ▸ principal_name_of f.service ▸ f.enc_part ▸ tt

abbrev pub ticket_fields : ValueOf ticket → TicketFields
ticket_fields v = record { service = principal_in v.1.0 v.1.1.0; enc_part = v.1.1.1.0 }

abbrev pub ticket_service : ValueOf ticket → Principal
ticket_service v = (ticket_fields v).service

-- ---- Authenticator (section 5.5.1)
pub record AuthenticatorFields : Type 0 where
  pub client : Principal
  pub checksum : Option (ValueOf checksum)
  pub cusec : ℕ
  pub ctime : ℤ
  pub subkey : Option (ValueOf encryption_key)
  pub seq_number : Option ℕ
  pub authorization : Option (List (ValueOf (typed (leaf octets))))

abbrev pub authenticator_value : AuthenticatorFields → ValueOf authenticator
authenticator_value f = tt ▸ f.client.realm ▸ principal_name_of f.client ▸ f.checksum ▸ f.cusec ▸ f.ctime ▸ f.subkey ▸ f.seq_number ▸
    f.authorization ▸ tt

abbrev pub authenticator_fields : ValueOf authenticator → AuthenticatorFields
authenticator_fields v = record {
  client = principal_in v.1.0 v.1.1.0;
  checksum = v.1.1.1.0;
  cusec = v.1.1.1.1.0;
  ctime = v.1.1.1.1.1.0;
  subkey = v.1.1.1.1.1.1.0;
  seq_number = v.1.1.1.1.1.1.1.0;
  authorization = v.1.1.1.1.1.1.1.1.0;
}

abbrev pub authenticator_client : ValueOf authenticator → Principal
authenticator_client v = (authenticator_fields v).client

-- ---- EncTicketPart (section 5.3)
pub record TicketTimes : Type 0 where
  pub authtime : ℤ
  pub starttime : Option ℤ
  pub endtime : ℤ
  pub renew_till : Option ℤ

abbrev pub part_times : ValueOf enc_ticket_part → TicketTimes
part_times v = record {
  authtime = v.1.1.1.1.1.0;
  starttime = v.1.1.1.1.1.1.0;
  endtime = v.1.1.1.1.1.1.1.0;
  renew_till = v.1.1.1.1.1.1.1.1.0;
}

pub record PartFields : Type 0 where
  pub flags : ℕ
  pub key : ValueOf encryption_key
  pub client : Principal
  pub transited : ValueOf transited_encoding
  pub caddr : Option (List (ValueOf (typed (leaf octets))))
  pub authorization : Option (List (ValueOf (typed (leaf octets))))
  pub times : TicketTimes

abbrev pub enc_ticket_part_value : PartFields → ValueOf enc_ticket_part
enc_ticket_part_value f = f.flags ▸ f.key ▸ f.client.realm ▸ principal_name_of f.client ▸ f.transited ▸ f.times.authtime ▸
    f.times.starttime ▸ f.times.endtime ▸ f.times.renew_till ▸ f.caddr ▸ f.authorization ▸ tt

abbrev pub part_fields : ValueOf enc_ticket_part → PartFields
part_fields v = record {
  flags = v.0;
  key = v.1.0;
  client = principal_in v.1.1.0 v.1.1.1.0;
  transited = v.1.1.1.1.0;
  caddr = v.1.1.1.1.1.1.1.1.1.0;
  authorization = v.1.1.1.1.1.1.1.1.1.1.0;
  times = part_times v;
}

abbrev pub part_client : ValueOf enc_ticket_part → Principal
part_client v = (part_fields v).client

-- ---- AP-REQ (section 5.5.1)
pub record RequestFields : Type 0 where
  pub options : ℕ
  pub ticket : ValueOf ticket
  pub authenticator : ValueOf encrypted_data

abbrev pub ap_req_value : RequestFields → ValueOf ap_req
ap_req_value f = tt ▸ tt ▸ f.options ▸ f.ticket ▸ f.authenticator ▸ tt

abbrev pub request_fields : ValueOf ap_req → RequestFields
request_fields v = record { options = v.1.1.0; ticket = v.1.1.1.0; authenticator = v.1.1.1.1.0 }

-- ---- AP-REP (section 5.5.2)
abbrev pub ap_rep_value : ValueOf encrypted_data → ValueOf ap_rep
ap_rep_value enc_part = tt ▸ tt ▸ enc_part ▸ tt

abbrev pub reply_enc_part : ValueOf ap_rep → ValueOf encrypted_data
reply_enc_part v = v.1.1.0

-- ---- EncAPRepPart (section 5.5.2)
pub record ReplyFields : Type 0 where
  pub ctime : ℤ
  pub cusec : ℕ
  pub subkey : Option (ValueOf encryption_key)
  pub seq_number : Option ℕ

abbrev pub enc_ap_rep_part_value : ReplyFields → ValueOf enc_ap_rep_part
enc_ap_rep_part_value f = f.ctime ▸ f.cusec ▸ f.subkey ▸ f.seq_number ▸ tt

abbrev pub reply_fields : ValueOf enc_ap_rep_part → ReplyFields
reply_fields v = record { ctime = v.0; cusec = v.1.0; subkey = v.1.1.0; seq_number = v.1.1.1.0 }

-- ---- KRB-ERROR (section 5.9.1)
pub record ErrorFields : Type 0 where
  pub ctime : Option ℤ
  pub cusec : Option ℕ
  pub stime : ℤ
  pub susec : ℕ
  pub error_code : ℤ
  pub crealm : Option (List ℕ)
  pub cname : Option (ValueOf principal_name)
  pub service : Principal
  pub e_text : Option (List ℕ)
  pub e_data : Option (List ℕ)

abbrev pub krb_error_value : ErrorFields → ValueOf krb_error
krb_error_value f = tt ▸ tt ▸ f.ctime ▸ f.cusec ▸ f.stime ▸ f.susec ▸ f.error_code ▸ f.crealm ▸ f.cname ▸ f.service.realm ▸
    principal_name_of f.service ▸ f.e_text ▸ f.e_data ▸ tt
