use Rattle.std.proofs.Common.{◌∙◌, ℤ, List, ap, arith, length, sym}
use Rattle.std.proofs.lemmas.Int.{ints}
use Rattle.krb_tally.specs.Inner.Kept.{times_of}
use Rattle.krb_tally.proofs.AddedLaws.{more_ok}
use Rattle.krb_tally.proofs.RemovalLaws.{added_some, one_more_some}
use Rattle.krb_tally.proofs.times.Times.add.Goals as goal

pub returns-else-is_full-clause-ok : goal.returns-else-is_full-clause-ok
returns-else-is_full-clause-ok c =
    more_ok c.add.result _ c.args.self.now c.deref_mut.result.now c.add.new.self _ c.args.time (omega (arith, ints))
    (c.deref_mut.ensures.value ∙ (ap times_of (sym c.in-Few.is) ∙ c.self.view_is)) c.add.ensures.ok

pub invariant_of-self-then-is_full : goal.invariant_of-self-then-is_full
invariant_of-self-then-is_full c = (one_more_some _ c.in_ok-one_more-in-Few.field-0.value _ c.in_ok-one_more-in-Few.ensures, tt)

pub invariant_of-self-in-Many : goal.invariant_of-self-in-Many
invariant_of-self-in-Many c =
    let long = ap (λ (times : List ℤ). length times) (c.deref_mut-in-Many.ensures.value ∙ ap times_of (sym c.in-Many.is)) in
    let some = c.self.invariant.0 in
    (added_some c.add-in-Many.result c.deref_mut-in-Many.result.now c.add-in-Many.new.self _ (omega arith) c.add-in-Many.ensures.ok c.add-in-Many.ensures.err, tt)

pub invariant_of-self-in-One : goal.invariant_of-self-in-One
invariant_of-self-in-One c = (one_more_some _ (times_of c.in_ok-self-inside-in-One.field-0) _ c.in_ok-self-inside-in-One.ensures.times, c.in_ok-self-inside-in-One.ensures.fits)

pub invariant_of-self-in-Two : goal.invariant_of-self-in-Two
invariant_of-self-in-Two c = (one_more_some _ c.in_ok-third-in-Two.field-0.value _ c.in_ok-third-in-Two.ensures, tt)
