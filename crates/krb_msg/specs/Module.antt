-- Made from messages.toml by tools/generate/messages.py. Don't edit this file.
-- The messages of Kerberos 5 as kinds of elements (RFC 4120, sections 5.2 to 5.9 and appendix A):
-- each field with its number, and whether it may be absent.
use Rattle.krb_der.specs.Kind.{Kind, sequence, application, constant, leaf, must, may, ends, field, int32, uint32, seq_number, microseconds, octets, string, flags, time}
use Rattle.krb_msg.specs.Parts.{sequence_of, principal_name, encryption_key, checksum, host_address, authorization_data, transited_encoding}
pub use Rattle.krb_msg.specs.Parts.{sequence_of, typed, principal_name, encryption_key, checksum, host_address, authorization_data, transited_encoding}

-- etype, kvno and cipher (section 5.2.9)
abbrev pub encrypted_data : Kind
encrypted_data = sequence
    (must (field 0 (leaf int32))
    (may (field 1 (leaf uint32))
    (must (field 2 (leaf octets)) ends)))

-- tkt-vno, realm, sname and enc-part (section 5.3)
abbrev pub ticket : Kind
ticket = application 1 (sequence
    (must (field 0 (leaf (constant 5)))
    (must (field 1 (leaf string))
    (must (field 2 principal_name)
    (must (field 3 encrypted_data) ends)))))

-- authenticator-vno, crealm, cname, cksum, cusec, ctime, subkey, seq-number and authorization-data
-- (section 5.5.1)
abbrev pub authenticator : Kind
authenticator = application 2 (sequence
    (must (field 0 (leaf (constant 5)))
    (must (field 1 (leaf string))
    (must (field 2 principal_name)
    (may (field 3 checksum)
    (must (field 4 (leaf microseconds))
    (must (field 5 (leaf time))
    (may (field 6 encryption_key)
    (may (field 7 (leaf seq_number))
    (may (field 8 authorization_data) ends))))))))))

-- flags, key, crealm, cname, transited, authtime, starttime, endtime, renew-till, caddr and
-- authorization-data (section 5.3)
abbrev pub enc_ticket_part : Kind
enc_ticket_part = application 3 (sequence
    (must (field 0 (leaf flags))
    (must (field 1 encryption_key)
    (must (field 2 (leaf string))
    (must (field 3 principal_name)
    (must (field 4 transited_encoding)
    (must (field 5 (leaf time))
    (may (field 6 (leaf time))
    (must (field 7 (leaf time))
    (may (field 8 (leaf time))
    (may (field 9 (sequence_of host_address))
    (may (field 10 authorization_data) ends))))))))))))

-- pvno, msg-type, ap-options, ticket and authenticator (section 5.5.1)
abbrev pub ap_req : Kind
ap_req = application 14 (sequence
    (must (field 0 (leaf (constant 5)))
    (must (field 1 (leaf (constant 14)))
    (must (field 2 (leaf flags))
    (must (field 3 ticket)
    (must (field 4 encrypted_data) ends))))))

-- pvno, msg-type and enc-part (section 5.5.2)
abbrev pub ap_rep : Kind
ap_rep = application 15 (sequence
    (must (field 0 (leaf (constant 5)))
    (must (field 1 (leaf (constant 15)))
    (must (field 2 encrypted_data) ends))))

-- ctime, cusec, subkey and seq-number (section 5.5.2)
abbrev pub enc_ap_rep_part : Kind
enc_ap_rep_part = application 27 (sequence
    (must (field 0 (leaf time))
    (must (field 1 (leaf microseconds))
    (may (field 2 encryption_key)
    (may (field 3 (leaf seq_number)) ends)))))

-- pvno, msg-type, ctime, cusec, stime, susec, error-code, crealm, cname, realm, sname, e-text and
-- e-data (section 5.9.1)
abbrev pub krb_error : Kind
krb_error = application 30 (sequence
    (must (field 0 (leaf (constant 5)))
    (must (field 1 (leaf (constant 30)))
    (may (field 2 (leaf time))
    (may (field 3 (leaf microseconds))
    (must (field 4 (leaf time))
    (must (field 5 (leaf microseconds))
    (must (field 6 (leaf int32))
    (may (field 7 (leaf string))
    (may (field 8 principal_name)
    (must (field 9 (leaf string))
    (must (field 10 principal_name)
    (may (field 11 (leaf string))
    (may (field 12 (leaf octets)) ends))))))))))))))

-- the messages, each of which comes alone
pub data IsMessageKind : Kind → Type 0 where
  is_ticket : IsMessageKind ticket
  is_authenticator : IsMessageKind authenticator
  is_enc_ticket_part : IsMessageKind enc_ticket_part
  is_ap_req : IsMessageKind ap_req
  is_ap_rep : IsMessageKind ap_rep
  is_enc_ap_rep_part : IsMessageKind enc_ap_rep_part
  is_krb_error : IsMessageKind krb_error
