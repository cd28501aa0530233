use Rattle.std.proofs.Common.{rules, arith}
use Rattle.krb_call_lines.proofs.CallLaws.{too_great}
use Rattle.krb_call_lines.proofs.call_line.number_of.Goals as goal

pub returns-then-number-greatest : goal.returns-then-number-greatest
returns-then-number-greatest c = λ h.
    too_great c.args.digits.now c.loop-digit.digit-index c.loop-digit.number c.args.greatest c.loop-digit-test.true
    c.loop-digit.invariant.value (search rules) (search (arith, rules)) h.1
