-- Made from messages.toml by tools/generate/messages.py. Don't edit this file.
-- The values of owned messages, by their fields.
use Rattle.std.specs.Option.{option_map}
use Rattle.krb_der.specs.Kind.{ValueOf}
use Rattle.krb_msg.specs.Module.{encrypted_data, ticket, authenticator, enc_ticket_part, ap_req, ap_rep, enc_ap_rep_part, krb_error}
use Rattle.krb_msg.specs.Fields.{encrypted_value, ticket_value, authenticator_value, enc_ticket_part_value, ap_req_value, ap_rep_value, enc_ap_rep_part_value, krb_error_value}
use Rattle.krb_msg.specs.declared.ticket.Encrypted.{Encrypted}
use Rattle.krb_msg.specs.declared.ticket.Ticket.{Ticket}
use Rattle.krb_msg.specs.declared.authenticator.Authenticator.{Authenticator}
use Rattle.krb_msg.specs.declared.enc_ticket_part.EncTicketPart.{EncTicketPart}
use Rattle.krb_msg.specs.declared.ap_req.ApReq.{ApReq}
use Rattle.krb_msg.specs.declared.ap_rep.ApRep.{ApRep}
use Rattle.krb_msg.specs.declared.enc_ap_rep_part.EncApRepPart.{EncApRepPart}
use Rattle.krb_msg.specs.declared.krb_error.KrbError.{KrbError}
use Rattle.krb_msg.specs.PartsOwned.{owned_name_of, owned_typed_of, owned_list_of, owned_key_of}
pub use Rattle.krb_msg.specs.PartsOwned.{principal_name_of, owned_name_of, owned_typed_of, owned_list_of, owned_key_of}

abbrev pub owned_encrypted_of : Encrypted → ValueOf encrypted_data
owned_encrypted_of m = encrypted_value (record { etype = m.etype; kvno = m.kvno; cipher = m.cipher.items })

abbrev pub owned_ticket_of : Ticket → ValueOf ticket
owned_ticket_of m = ticket_value (record { service = m.service; enc_part = owned_encrypted_of m.enc_part })

abbrev pub owned_authenticator_of : Authenticator → ValueOf authenticator
owned_authenticator_of m = authenticator_value (record {
  client = m.client;
  checksum = option_map owned_typed_of m.checksum;
  cusec = m.cusec;
  ctime = m.ctime;
  subkey = option_map owned_key_of m.subkey;
  seq_number = m.seq_number;
  authorization = option_map (λ x. owned_list_of x.items) m.authorization;
})

abbrev pub owned_enc_ticket_part_of : EncTicketPart → ValueOf enc_ticket_part
owned_enc_ticket_part_of m = enc_ticket_part_value (record {
  flags = m.flags.0;
  key = owned_key_of m.key;
  client = m.client;
  transited = owned_typed_of m.transited;
  caddr = option_map (λ x. owned_list_of x.items) m.caddr;
  authorization = option_map (λ x. owned_list_of x.items) m.authorization;
  times = record { authtime = m.authtime; starttime = m.starttime; endtime = m.endtime; renew_till = m.renew_till };
})

abbrev pub owned_ap_req_of : ApReq → ValueOf ap_req
owned_ap_req_of m = ap_req_value (record {
  options = m.options.0;
  ticket = owned_ticket_of m.ticket;
  authenticator = owned_encrypted_of m.authenticator;
})

abbrev pub owned_ap_rep_of : ApRep → ValueOf ap_rep
owned_ap_rep_of m = ap_rep_value (owned_encrypted_of m.enc_part)

abbrev pub owned_enc_ap_rep_part_of : EncApRepPart → ValueOf enc_ap_rep_part
owned_enc_ap_rep_part_of m = enc_ap_rep_part_value (record {
  ctime = m.ctime;
  cusec = m.cusec;
  subkey = option_map owned_key_of m.subkey;
  seq_number = m.seq_number;
})

abbrev pub owned_krb_error_of : KrbError → ValueOf krb_error
owned_krb_error_of m = krb_error_value (record {
  ctime = m.ctime;
  cusec = m.cusec;
  stime = m.stime;
  susec = m.susec;
  error_code = m.error_code;
  crealm = m.crealm;
  cname = option_map owned_name_of m.cname;
  service = m.service;
  e_text = m.e_text;
  e_data = option_map (λ x. x.items) m.e_data;
})
