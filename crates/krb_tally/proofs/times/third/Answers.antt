use Rattle.std.proofs.Common.{◌<◌, ◌+ℤ◌, ℤ, pos, List, ap, arith, length, subst, sym}
use Rattle.std.specs.List.Sorted.{IsPermutation}
use Rattle.std.proofs.lemmas.Int.{ints}
use Rattle.krb_tally.specs.Inner.Kept.{times_of}
use Rattle.krb_tally.proofs.AddedLaws.{one_more_of, put_together, two_of_few}
use Rattle.krb_tally.proofs.times.third.Goals as goal

pub add-requires : goal.add-requires
add-requires c = subst (λ (times : List ℤ). length times < 1024) (sym c.deref_mut.ensures.value) (two_of_few _ _ c.in_ok-times.times.value c.in_ok-times.ensures)

pub returns : goal.returns
returns c =
    let both = put_together (times_of c.args.kept.now) c.in_ok-times.times.value c.in-Two.first (c.in-Two.first +ℤ pos c.in-Two.later) _ _ (ap times_of c.in-Two.is) (omega (arith, ints)) (omega (arith, ints)) c.in_ok-times.ensures in
    one_more_of _ (times_of c.args.kept.now) c.deref_mut.result.now c.add.new.self _ c.args.time (omega (arith, ints))
    (subst (λ (times : List ℤ). IsPermutation (times_of c.args.kept.now) times) (sym c.deref_mut.ensures.value) both) c.in_ok-add.ensures.ok
