use Rattle.std.proofs.Common.{refl}
use Rattle.krb_c.specs.Messages.{unbegun}
use Rattle.krb_c.proofs.HeldMessages.{begins_in}
use Rattle.krb_c.proofs.messages.begin_in.Goals as goal

pub returns-in-Ok : goal.returns-in-Ok
returns-in-Ok c = begins_in _ _ _ _ _ _ _ c.in-Ok.context _ c.in-Ok.ensures.begins c.keep.ensures

pub returns-in-Err : goal.returns-in-Err
returns-in-Err c = unbegun c.in-Err.ensures.fault refl
