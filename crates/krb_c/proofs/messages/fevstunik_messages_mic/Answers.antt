use Rattle.krb_c.proofs.HeldMessages.{sends_mic}
use Rattle.krb_c.proofs.messages.fevstunik_messages_mic.Goals as goal

pub returns : goal.returns
returns c =
    sends_mic _ _ _ c.in-Some.context.value _ _ _ _ _ _ c.in-Some.ensures.taken c.deref_mut.ensures.value c.put.ensures c.sent-answer.ensures c.mic_to.ensures
