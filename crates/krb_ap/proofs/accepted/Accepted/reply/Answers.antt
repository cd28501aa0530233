use Rattle.std.proofs.Common.{ap, refl, subst, length}
use Rattle.krb_der.specs.Kind.{ValueOf}
use Rattle.krb_msg.specs.Fields.{ap_rep_value, encrypted_fields}
use Rattle.krb_msg.specs.Owned.{owned_encrypted_of}
use Rattle.krb_msg.specs.Module.{ap_rep, encrypted_data}
use Rattle.krb_ap.specs.Reply.{reply_usage}
use Rattle.krb_ap.specs.Written.{IsWritten}
use Rattle.krb_ap.proofs.Building.{sealed_by}
use Rattle.krb_ap.proofs.Replying.{copied_reply, reply_small}
use Rattle.krb_ap.proofs.accepted.Accepted.reply.Goals as goal

pub returns-in-Ok : goal.returns-in-Ok
returns-in-Ok c = record {
  plain = c.in_ok-plain.plain.items;
  plain_is = c.in_ok-plain.ensures.written;
  text = c.in_ok-cipher.cipher.items;
  text_is = sealed_by _ _ c.args.self.now.session_key reply_usage _ _ _ _ c.for_usage-keys.ensures refl c.as_slice.ensures.value c.in_ok-cipher.ensures.sealed;
  bytes_are = subst (λ (v : ValueOf ap_rep). IsWritten ap_rep v c.in-Ok.bytes.items)
      (copied_reply c.args.self.now.session_key c.in_ok-cipher.cipher.items _ c.encrypted.ensures)
      (record { message = c.in-Ok.ensures.ok; written = c.in-Ok.ensures.written });
}

pub unreachable-requires : goal.unreachable-requires
unreachable-requires c = reply_small _ _ _ _ _ ((rw c.in-Err-TooLong.field-0-is at c.in-Err-TooLong.ensures.too_long) refl)
    (c.reply_size.ensures.reply (ap_rep_value (owned_encrypted_of c.encrypted.result))) (ap (λ (e : ValueOf encrypted_data). length (encrypted_fields e).cipher) c.encrypted.ensures)
    c.in_ok-cipher.ensures.length (ap length c.as_slice.ensures.value) c.in_ok-plain.ensures.length
