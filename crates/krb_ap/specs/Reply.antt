-- The reply of a service to a request that it accepted (RFC 4120, sections 3.2.4 and 5.5.2).
use Rattle.std.specs.Prelude.{ℕ, List, None}
use Rattle.std.specs.Option.{option_map}
use Rattle.krb_der.specs.Kind.{ValueOf}
use Rattle.krb_enc.specs.Key.{KeyValue}
use Rattle.krb_msg.specs.Module.{ap_rep, enc_ap_rep_part}
use Rattle.krb_msg.specs.Fields.{ap_rep_value, enc_ap_rep_part_value, encrypted_value}
use Rattle.krb_ap.specs.Taken.{Taken}
use Rattle.krb_ap.specs.Written.{IsWritten, IsSealed, key_value}
use Rattle.krb_ap.specs.declared.reply.ReplyOptions.{ReplyOptions}

-- the key usage (section 7.5.1)
abbrev pub reply_usage : ℕ
reply_usage = 12

-- what is sealed: the time that the client sent, and the subkey and the sequence number that the
-- service chose
abbrev pub reply_part_for : Taken → ReplyOptions → ValueOf enc_ap_rep_part
reply_part_for taken options = enc_ap_rep_part_value (record {
  ctime = taken.ctime;
  cusec = taken.cusec;
  subkey = option_map key_value options.subkey;
  seq_number = options.seq;
})

-- a reply has a sealed text with the type of its key and without a version number
abbrev pub reply_for : KeyValue → List ℕ → ValueOf ap_rep
reply_for key text = ap_rep_value (encrypted_value (record { etype = key.etype; kvno = None; cipher = text }))

-- the bytes are the reply as it is written, with that part sealed under the ticket's session key
pub record IsReply (taken : Taken) (confounder : List ℕ) (options : ReplyOptions) (bytes : List ℕ) : Type 0 where
  pub plain : List ℕ
  pub plain_is : IsWritten enc_ap_rep_part (reply_part_for taken options) plain
  pub text : List ℕ
  pub text_is : IsSealed taken.session_key reply_usage confounder plain text
  pub bytes_are : IsWritten ap_rep (reply_for taken.session_key text) bytes
