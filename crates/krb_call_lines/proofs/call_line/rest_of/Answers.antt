use Rattle.std.proofs.Common.{rules}
use Rattle.krb_call_lines.proofs.CallLaws.{alone, parted}
use Rattle.krb_call_lines.proofs.call_line.rest_of.Goals as goal

pub returns-in_default-clause-none : goal.returns-in_default-clause-none
returns-in_default-clause-none c = λ none bytes confounder spells.
    c.message_with.ensures.none none bytes (alone c.args.text.now bytes confounder (search rules) spells)

pub returns-in-Some-confounder_of-clause-none : goal.returns-in-Some-confounder_of-clause-none
returns-in-Some-confounder_of-clause-none c = λ none bytes confounder spells.
    let parts = parted c.args.text.now c.in-Some.message.now c.in-Some.digits.now bytes confounder c.in-Some.ensures.0 c.in-Some.ensures.1 spells in
    c.message_with-in-Some-confounder_of.ensures.none none bytes parts.1.0

pub returns-in-None-clause-none : goal.returns-in-None-clause-none
returns-in-None-clause-none c = λ _ bytes confounder spells.
    let parts = parted c.args.text.now c.in-Some.message.now c.in-Some.digits.now bytes confounder c.in-Some.ensures.0 c.in-Some.ensures.1 spells in
    c.confounder_of.ensures.none (search rules) parts.0 parts.1.1
