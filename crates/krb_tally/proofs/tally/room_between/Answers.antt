use Rattle.std.proofs.Common.{◌-◌, pos, arith}
use Rattle.krb_tally.specs.Inner.Buckets.{place_from}
use Rattle.krb_tally.proofs.TallyLaws.{fits_before, fits_next}
use Rattle.krb_tally.proofs.tally.room_between.Goals as goal

pub returns-then-not-is_full-clause-old : goal.returns-then-not-is_full-clause-old
returns-then-not-is_full-clause-old g c = λ _.
    let some = c.if-next-gt0.true in
    let place = c.requires.place in
    (omega arith, fits_before (place_from g.T.Ord.cmp c.args.item.now) c.args.buckets.now (pos 1) c.args.next (c.args.next - 1) (omega arith) c.requires.fits)

pub returns-else-next-buckets-clause-old : goal.returns-else-next-buckets-clause-old
returns-else-next-buckets-clause-old g c = λ _.
    let apart = c.if-next-buckets.false in
    let place = c.requires.place in
    (omega arith, fits_next (place_from g.T.Ord.cmp c.args.item.now) c.args.buckets.now (pos 1) c.args.next c.requires.fits)
