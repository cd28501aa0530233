use Rattle.std.proofs.Common.{refl}
use Rattle.krb_talk.specs.Turns.{is_passed, takes_none}
use Rattle.krb_talk.proofs.Turning.{taken}
use Rattle.krb_talk.proofs.talk.first_turn.Goals as goal

pub returns-in-Ok-None : goal.returns-in-Ok-None
returns-in-Ok-None c =
    is_passed _ refl (λ is listing it. (rw c.in-Ok-None.field-0-is at c.in-Ok-None.ensures.found) listing.mechanism listing.list it) refl refl

pub returns-in-Ok-Some : goal.returns-in-Ok-Some
returns-in-Ok-Some c =
    taken c.args.bytes.now c.in-Ok-Some.listed (rw c.in-Ok-Some.field-0-is at c.in-Ok-Some.ensures.found) c.list-decision.result.0 c.list-decision.result.1
    c.list-decision.ensures

pub returns-in-Err : goal.returns-in-Err
returns-in-Err c =
    let memory = c.in-Err.ensures.memory in
    takes_none (record { mechanism = memory.0; list = memory.1 }) c.unshown.result refl memory.2 refl c.unshown.ensures refl
