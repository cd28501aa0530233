use Rattle.std.proofs.Common.{arith}
use Rattle.std.proofs.lemmas.Bool.{ltb-false, ltb-true}
use Rattle.krb_call_lines.proofs.DigitLaws.{all_decoded, digits_more, none_decoded}
use Rattle.krb_call_lines.proofs.digits.decode_into.Goals as goal

pub loop-at-preserved : goal.loop-at-preserved
loop-at-preserved c =
    digits_more _ _ _ _ _ _ _ c.loop-at.invariant (omega (arith, c.loop-at-test.true)) c.value-high.ensures c.value-low.ensures (omega (arith, c.greater.ensures, c.greater-greatest.ensures))

pub returns-clause-decoded : goal.returns-clause-decoded
returns-clause-decoded c = λ less. all_decoded _ _ _ _ c.loop-at.invariant (omega (arith, c.loop-at-test.false)) (ltb-true c.loop-at.greatest 16 less)

pub returns-clause-refused : goal.returns-clause-refused
returns-clause-refused c = λ more. none_decoded _ _ _ _ c.loop-at.invariant (ltb-false c.loop-at.greatest 16 more)
