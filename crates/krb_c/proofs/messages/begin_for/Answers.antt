use Rattle.krb_c.proofs.HeldMessages.{begins_for}
use Rattle.krb_c.proofs.messages.begin_for.Goals as goal

pub returns : goal.returns
returns c =
    begins_for _ _ c.in-Some.accepted _ _ _ _ _ _ _ _ _ c.in-Some.is c.options_for-options.ensures c.bytes.ensures.value c.bytes_of.ensures c.begin_in.ensures
