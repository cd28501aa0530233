use Rattle.std.proofs.Common.{arith}
use Rattle.std.proofs.lemmas.Int.{ints}
use Rattle.krb_tally.proofs.AddedLaws.{in_place}
use Rattle.krb_tally.proofs.times.both.Goals as goal

pub returns-in-Some-clause-times : goal.returns-in-Some-clause-times
returns-in-Some-clause-times c = in_place _ _ _ c.args.one c.args.other c.in-Some.ensures.times (omega (arith, ints)) (omega (arith, ints))
