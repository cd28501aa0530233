use Rattle.std.proofs.Common.{◌≡◌, Err, ap, sym, subst, ◌∙◌}
use Rattle.std.specs.Option.{option_map}
use Rattle.krb_der.specs.Kind.{ValueOf}
use Rattle.krb_msg.specs.Borrowed.{ap_rep_of, enc_ap_rep_part_of}
use Rattle.krb_msg.specs.Module.{enc_ap_rep_part}
use Rattle.krb_msg.specs.Fields.{encrypted_fields, reply_enc_part}
use Rattle.krb_msg.specs.Owned.{owned_key_of}
use Rattle.krb_ap.specs.Request.{Awaited}
use Rattle.krb_ap.specs.Finish.{FinishCause, IsOpenedReply, IsReplyOfType, OpensReply}
use Rattle.krb_ap.specs.declared.finish.FinishFault.{FinishFault}
use Rattle.krb_ap.specs.declared.finish.FinishFault.TheVariants.{OutOfMemory}
use Rattle.krb_ap.proofs.Truth.{err_is, is_so, is_not}
use Rattle.krb_ap.proofs.Finishing.{fault_of, reply_shut, of_another, opens_reply, opens_to_other, copied_agreement}
use Rattle.krb_ap.proofs.Offsets.{finish_within, shut_within}
use Rattle.krb_ap.proofs.finish.Pending.finish.Goals as goal
use Rattle.krb_ap.proofs.finish.Pending.finish.Goals.{In-Ok, In_ok-plain}

of_type : (c : In_ok-plain) → IsReplyOfType c.args.self.now c.args.reply.now
of_type c = record {
  reply = ap_rep_of c.in_ok-message.message;
  message = c.in_ok-message.ensures.read;
  same_type = subst (λ (a : Awaited). (encrypted_fields (reply_enc_part (ap_rep_of c.in_ok-message.message))).etype ≡ a.key.etype) c.self.view_is c.in_ok-plain.ensures.same_type;
}

opened : (c : In-Ok) → IsOpenedReply c.args.self.now c.args.reply.now (enc_ap_rep_part_of c.in-Ok.part)
opened c = record {
  reply = ap_rep_of c.in_ok-message.message;
  message = c.in_ok-message.ensures.read;
  opens = subst (λ (a : Awaited). OpensReply a.key (ap_rep_of c.in_ok-message.message) (enc_ap_rep_part_of c.in-Ok.part)) c.self.view_is
      (opens_reply c.self.inside.key (ap_rep_of c.in_ok-message.message) _ _ (enc_ap_rep_part_of c.in-Ok.part)
      c.in_ok-plain.ensures.same_type c.as_slice.ensures.value c.in_ok-plain.ensures.opened c.in-Ok.ensures.found);
}

pub returns-in_err-message-clause-fault : goal.returns-in_err-message-clause-fault
returns-in_err-message-clause-fault c = rw (err_is _ c.from_residual.ensures) (λ named. c.in_err-message.ensures.refused _)

pub returns-in_err-message-clause-offset : goal.returns-in_err-message-clause-offset
returns-in_err-message-clause-offset c = rw (err_is _ c.from_residual.ensures) (finish_within c.within.ensures c.args.self.now c.args.reply.now c.in_err-message.field-0.0 (c.in_err-message.ensures.refused c.args.self.now))

pub returns-in_err-plain-clause-offset : goal.returns-in_err-plain-clause-offset
returns-in_err-plain-clause-offset c = rw (err_is _ c.from_residual-in_err-plain.ensures) (shut_within c.args.reply.now c.in_err-plain.field-0.0 (λ named. (c.in_err-plain.ensures.shut named).0))

pub returns-in_err-plain-clause-fault : goal.returns-in_err-plain-clause-fault
returns-in_err-plain-clause-fault c = rw (err_is _ c.from_residual-in_err-plain.ensures) (λ named.
    subst (λ (f : FinishFault). FinishCause c.args.self.now c.args.reply.now f) (sym (c.in_err-plain.ensures.shut named).0)
    (reply_shut c.facts.ensures c.args.self.now c.args.reply.now (ap_rep_of c.in_ok-message.message) c.in_ok-message.ensures.read
    (subst (λ (a : Awaited). (part : ValueOf enc_ap_rep_part) → ¬ OpensReply a.key (ap_rep_of c.in_ok-message.message) part) c.self.view_is
    (c.in_err-plain.ensures.shut named).1)))

pub returns-in-Err-clause-fault : goal.returns-in-Err-clause-fault
returns-in-Err-clause-fault c = λ named.
    reply_shut c.facts.ensures c.args.self.now c.args.reply.now (ap_rep_of c.in_ok-message.message) c.in_ok-message.ensures.read
    (subst (λ (a : Awaited). (part : ValueOf enc_ap_rep_part) → ¬ OpensReply a.key (ap_rep_of c.in_ok-message.message) part) c.self.view_is
    (opens_to_other c.facts.ensures c.self.inside.key (ap_rep_of c.in_ok-message.message) _ _ c.as_slice.ensures.value c.in_ok-plain.ensures.opened c.in-Err.ensures.only))

pub returns-then-not-is_at-clause-fault : goal.returns-then-not-is_at-clause-fault
returns-then-not-is_at-clause-fault c = λ named.
    of_another c.facts.ensures c.args.self.now c.args.reply.now (enc_ap_rep_part_of c.in-Ok.part)
    (opened (goal.at.returns-then-not-is_at-clause-fault c).In-Ok)
    (λ same. is_not _ _ c.is_at.ensures c.if-not-is_at.true (same ∙ sym (ap (λ (a : Awaited). a.at) c.self.view_is)))

pub returns-clause-agreed : goal.returns-clause-agreed
returns-clause-agreed c = record {
  part = enc_ap_rep_part_of c.in-Ok.part;
  opened = opened (goal.at.returns-clause-agreed c).In-Ok;
  same = is_so _ _ c.is_at.ensures c.if-not-is_at.false ∙ ap (λ (a : Awaited). a.at) c.self.view_is;
  agreement_is = copied_agreement c.args.self.now (enc_ap_rep_part_of c.in-Ok.part) c.in_ok-clone.field-0 c.copy.result c.own_key.result c.self.inside.seq
      (option_map owned_key_of c.in_ok-owned_key.field-0)
      (c.in_ok-clone.ensures.cases ∙ ap (λ (a : Awaited). a.client) c.self.view_is)
      (c.copy.ensures ∙ ap (λ (a : Awaited). a.key) c.self.view_is)
      (c.own_key.ensures ∙ ap (λ (a : Awaited). a.subkey) c.self.view_is)
      (ap (λ (a : Awaited). a.seq) c.self.view_is)
      c.in_ok-owned_key.ensures;
}

pub returns-clause-held : goal.returns-clause-held
returns-clause-held c = c.both_agree.ensures.each c.args.self.now c.args.reply.now _ (returns-clause-agreed c)

pub returns-in_err-message-clause-memory : goal.returns-in_err-message-clause-memory
returns-in_err-message-clause-memory c = rw (err_is _ c.from_residual.ensures) (λ memory.
    absurd (subst (λ (f : FinishFault). FinishCause c.args.self.now c.args.reply.now f) (fault_of c.in_err-message.field-0.0 OutOfMemory memory)
    (c.in_err-message.ensures.refused c.args.self.now)).holds)

pub returns-in_err-plain-clause-memory : goal.returns-in_err-plain-clause-memory
returns-in_err-plain-clause-memory c = rw (err_is _ c.from_residual-in_err-plain.ensures) (λ memory. record {
  reply = ap_rep_of c.in_ok-message.message;
  message = c.in_ok-message.ensures.read;
  same_type = subst (λ (a : Awaited). (encrypted_fields (reply_enc_part (ap_rep_of c.in_ok-message.message))).etype ≡ a.key.etype) c.self.view_is
      (c.in_err-plain.ensures.memory (ap Err (fault_of c.in_err-plain.field-0.0 OutOfMemory memory)));
})

pub returns-in_err-clone-clause-memory : goal.returns-in_err-clone-clause-memory
returns-in_err-clone-clause-memory c = λ memory. of_type (goal.at.returns-in_err-clone-clause-memory c).In_ok-plain

pub returns-in_err-owned_key-clause-memory : goal.returns-in_err-owned_key-clause-memory
returns-in_err-owned_key-clause-memory c = λ memory. of_type (goal.at.returns-in_err-owned_key-clause-memory c).In_ok-plain
