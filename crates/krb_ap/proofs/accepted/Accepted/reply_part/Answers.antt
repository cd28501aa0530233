use Rattle.std.proofs.Common.{◌≤◌, ℕ, lit≤, refl, subst, sym}
use Rattle.krb_der.specs.Kind.{ValueOf}
use Rattle.std.specs.Option.{option_map}
use Rattle.krb_msg.specs.Fields.{enc_ap_rep_part_value}
use Rattle.krb_msg.specs.Owned.{owned_key_of}
use Rattle.krb_msg.specs.Module.{enc_ap_rep_part}
use Rattle.krb_ap.specs.Answer.{taken_of}
use Rattle.krb_ap.specs.Written.{IsWritten}
use Rattle.krb_ap.proofs.Replying.{copied_part, part_size, too_big}
use Rattle.krb_ap.proofs.accepted.Accepted.reply_part.Goals as goal

pub returns-in-Ok-clause-written : goal.returns-in-Ok-clause-written
returns-in-Ok-clause-written c = subst (λ (v : ValueOf enc_ap_rep_part). IsWritten enc_ap_rep_part v c.in-Ok.plain.items)
    (copied_part (taken_of c.args.self.now) c.args.options.now _ c.in_ok-raw_key.ensures.value)
    (record { message = c.in-Ok.ensures.ok; written = c.in-Ok.ensures.written })

pub returns-in-Ok-clause-length : goal.returns-in-Ok-clause-length
returns-in-Ok-clause-length c = subst (λ (n : ℕ). n ≤ 114) (sym c.in-Ok.ensures.size)
    (part_size c.reply_size.ensures.without_key c.reply_size.ensures.with_key (enc_ap_rep_part_value (record {
      ctime = c.args.self.now.ctime;
      cusec = c.args.self.now.cusec;
      subkey = option_map owned_key_of c.in_ok-raw_key.field-0;
      seq_number = c.args.options.now.seq;
    })) c.args.options.now.subkey c.in_ok-raw_key.ensures.value c.in_ok-raw_key.ensures.usable)

pub unreachable-requires : goal.unreachable-requires
unreachable-requires c = too_big _ 114 ((rw c.in-Err-TooLong.field-0-is at c.in-Err-TooLong.ensures.too_long) refl)
    (part_size c.reply_size.ensures.without_key c.reply_size.ensures.with_key (enc_ap_rep_part_value (record {
      ctime = c.args.self.now.ctime;
      cusec = c.args.self.now.cusec;
      subkey = option_map owned_key_of c.in_ok-raw_key.field-0;
      seq_number = c.args.options.now.seq;
    })) c.args.options.now.subkey c.in_ok-raw_key.ensures.value c.in_ok-raw_key.ensures.usable)
    (lit≤ tt)
