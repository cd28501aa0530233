use Rattle.krb_call_lines.proofs.DigitLaws.{IsDecoded}
use Rattle.krb_call_lines.proofs.digits.decode_into.Given as goal

abbrev pub invariant-loop-at : goal.invariant-loop-at
invariant-loop-at l = IsDecoded l.digits l.bytes l.at l.greatest
