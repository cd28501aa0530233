use Rattle.std.proofs.Common.{rules, refl}
use Rattle.krb_call_lines.specs.CallLine.{SpellsCall}
use Rattle.krb_service_command.proofs.accept.Session.outcome.Goals as goal

pub returns-in-Some-clause-ok : goal.returns-in-Some-clause-ok
returns-in-Some-clause-ok g c = λ history line stands holds.
    let spells : SpellsCall line c.in-Some.call.bytes.items c.in-Some.call.now c.in-Some.call.confounder = rw c.in-Some.is at (c.in_ok-call.ensures.found line holds) in
    c.answer_call.ensures.becomes history line stands spells

pub returns-in-None-clause-ok : goal.returns-in-None-clause-ok
returns-in-None-clause-ok g c = λ history line stands holds. record {
  end = history;
  becomes = (c.in_ok-call.ensures.bad (search rules) line holds, refl);
  stands = stands;
}
