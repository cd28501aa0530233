-- Made from messages.toml by tools/generate/messages.py. Don't edit this file.
-- The values of messages that are read in place: their fields in the order of their numbers, with
-- a tt for each constant.
use Rattle.std.specs.Option.{option_map}
use Rattle.krb_der.specs.Kind.{ValueOf}
use Rattle.krb_msg.specs.Parts.{◌▸◌}
use Rattle.krb_msg.specs.Module.{encrypted_data, ticket, authenticator, enc_ticket_part, ap_req, ap_rep, enc_ap_rep_part, krb_error}
use Rattle.krb_msg.specs.declared.ticket.EncryptedRef.{EncryptedRef}
use Rattle.krb_msg.specs.declared.ticket.TicketRef.{TicketRef}
use Rattle.krb_msg.specs.declared.authenticator.AuthenticatorRef.{AuthenticatorRef}
use Rattle.krb_msg.specs.declared.enc_ticket_part.EncTicketRef.{EncTicketRef}
use Rattle.krb_msg.specs.declared.ap_req.ApReqRef.{ApReqRef}
use Rattle.krb_msg.specs.declared.ap_rep.ApRepRef.{ApRepRef}
use Rattle.krb_msg.specs.declared.enc_ap_rep_part.EncApRepRef.{EncApRepRef}
use Rattle.krb_msg.specs.declared.krb_error.KrbErrorRef.{KrbErrorRef}
use Rattle.krb_msg.specs.PartsBorrowed.{name_of, typed_of, key_of}
pub use Rattle.krb_msg.specs.PartsBorrowed.{name_of, typed_of, key_of}

abbrev pub encrypted_of : EncryptedRef → ValueOf encrypted_data
encrypted_of m = m.etype ▸ m.kvno ▸ m.cipher.now ▸ tt

abbrev pub ticket_of : TicketRef → ValueOf ticket
ticket_of m = tt ▸ m.realm.now ▸ name_of m.sname ▸ encrypted_of m.enc_part ▸ tt

abbrev pub authenticator_of : AuthenticatorRef → ValueOf authenticator
authenticator_of m = tt ▸ m.crealm.now ▸ name_of m.cname ▸ option_map typed_of m.checksum ▸ m.cusec ▸ m.ctime ▸ option_map key_of m.subkey ▸
    m.seq_number ▸ m.authorization ▸ tt

abbrev pub enc_ticket_part_of : EncTicketRef → ValueOf enc_ticket_part
enc_ticket_part_of m = m.flags.0 ▸ key_of m.key ▸ m.crealm.now ▸ name_of m.cname ▸ typed_of m.transited ▸ m.authtime ▸ m.starttime ▸
    m.endtime ▸ m.renew_till ▸ m.caddr ▸ m.authorization ▸ tt

abbrev pub ap_req_of : ApReqRef → ValueOf ap_req
ap_req_of m = tt ▸ tt ▸ m.options.0 ▸ ticket_of m.ticket ▸ encrypted_of m.authenticator ▸ tt

abbrev pub ap_rep_of : ApRepRef → ValueOf ap_rep
ap_rep_of m = tt ▸ tt ▸ encrypted_of m.enc_part ▸ tt

abbrev pub enc_ap_rep_part_of : EncApRepRef → ValueOf enc_ap_rep_part
enc_ap_rep_part_of m = m.ctime ▸ m.cusec ▸ option_map key_of m.subkey ▸ m.seq_number ▸ tt

abbrev pub krb_error_of : KrbErrorRef → ValueOf krb_error
krb_error_of m = tt ▸ tt ▸ m.ctime ▸ m.cusec ▸ m.stime ▸ m.susec ▸ m.error_code ▸ option_map (λ x. x.now) m.crealm ▸
    option_map name_of m.cname ▸ m.realm.now ▸ name_of m.sname ▸ option_map (λ x. x.now) m.e_text ▸ option_map (λ x. x.now) m.e_data ▸ tt
