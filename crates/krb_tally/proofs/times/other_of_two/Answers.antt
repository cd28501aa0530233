use Rattle.std.proofs.Common.{◌+ℤ◌, pos, ap, arith}
use Rattle.std.proofs.lemmas.Int.{ints}
use Rattle.krb_tally.specs.Inner.Kept.{times_of}
use Rattle.krb_tally.proofs.AddedLaws.{second_first}
use Rattle.krb_tally.proofs.times.other_of_two.Goals as goal

pub returns-then-time-second-clause-other : goal.returns-then-time-second-clause-other
returns-then-time-second-clause-other c =
    let second = c.second_of-second.ensures in
    let same = c.if-time-second.true in
    second_first (times_of c.args.kept.now) c.in-Two.first (c.in-Two.first +ℤ pos c.in-Two.later) _ c.args.time (ap times_of c.in-Two.is) (omega (arith, ints)) (omega (arith, ints))
