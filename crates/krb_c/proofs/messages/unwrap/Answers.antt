use Rattle.std.proofs.Common.{◌∙◌, ap, refl}
use Rattle.std.specs.Prelude.{Some}
use Rattle.krb_c.specs.Answer.{plain}
use Rattle.krb_c.specs.Messages.{unwrapped, not_unwrapped}
use Rattle.krb_c.proofs.messages.unwrap.Goals as goal

pub returns-in-Ok-clause-takes : goal.returns-in-Ok-clause-takes
returns-in-Ok-clause-takes c =
    let done = c.in-Ok.ensures in
    unwrapped c.unwrap.new.self c.in-Ok.it done.ok done.start done.within.1 done.length done.header done.taken refl c.opened_as.ensures c.plain.ensures

pub returns-in-Err-clause-takes : goal.returns-in-Err-clause-takes
returns-in-Err-clause-takes c =
    let done = c.in-Err.ensures in
    not_unwrapped c.in-Err.fault done.fault done.token (ap Some done.unchanged) refl (c.plain-in-Err.ensures ∙ ap plain c.receive_code.ensures)
