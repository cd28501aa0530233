use Rattle.std.proofs.Common.{refl}
use Rattle.krb_login.specs.Store.{asked, unasked}
use Rattle.krb_login.proofs.question.Asking.settle_by.Goals as goal

pub returns-in_default : goal.returns-in_default
returns-in_default g c = unasked c.out_of_memory.result c.in_default.ensures.memory.0 refl c.out_of_memory.ensures.cause c.out_of_memory.ensures.silent c.in_default.ensures.memory.1

pub returns : goal.returns
returns g c =
    asked c.in-Ok.said c.add_to.new.store c.now-now.result
    c.in-Ok.ensures.said c.now-now.ensures c.settle.ensures
