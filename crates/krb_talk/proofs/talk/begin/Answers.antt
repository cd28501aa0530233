use Rattle.std.proofs.Common.{refl}
use Rattle.krb_talk.specs.Talk.{fails}
use Rattle.krb_talk.proofs.Talking.{asked, passed}
use Rattle.krb_talk.proofs.talk.begin.Goals as goal

pub returns-in-Ok-None : goal.returns-in-Ok-None
returns-in-Ok-None g c =
    passed _ _ c.args.options c.args.given c.pass.result.0 c.pass.result.1 _
    (λ is listing it. (rw c.in-Ok-None.field-0-is at c.in-Ok-None.ensures.found) listing.mechanism listing.list it) c.pass.ensures

pub returns-in-Ok-Some : goal.returns-in-Ok-Some
returns-in-Ok-Some g c =
    asked _ _ c.args.options c.args.given c.list.result.0 c.list.result.1 c.in-Ok-Some.listed (rw c.in-Ok-Some.field-0-is at c.in-Ok-Some.ensures.found) refl c.list.ensures

pub returns-in-Err : goal.returns-in-Err
returns-in-Err g c =
    let memory = c.in-Err.ensures.memory in
    fails (record { mechanism = memory.0; list = memory.1 }) refl memory.2 refl c.unshown.ensures refl
