use Rattle.std.proofs.Common.{◌<◌, length, subst, sym}
use Rattle.krb_tally.specs.Inner.Buckets.{place_from}
use Rattle.krb_tally.proofs.OrderLaws.{adds_by_time, adds_from, fits_by_time, fits_from}
use Rattle.krb_tally.proofs.TallyLaws.{more_in, stands}
use Rattle.krb_tally.proofs.tally.add_to.Goals as goal

pub add-requires : goal.add-requires
add-requires g c =
    subst (λ items. length items < 1024) (sym (stands c.args.buckets.now.items c.args.bucket c.index_mut.result.now c.requires.within c.index_mut.ensures.value)) c.requires.room

pub returns-clause-ok : goal.returns-clause-ok
returns-clause-ok g c =
    (more_in g.T.Timed.timestamp c.args.buckets.now.items c.args.bucket c.index_mut.result.now c.requires.within c.index_mut.ensures.value c.args.item c.add.new.self
    (adds_by_time g.T.Ord.cmp g.met.T.Ord.total g.T.Timed.timestamp g.met.T.Timed.by_time c.index_mut.result.now c.add.new.self c.args.item c.in_ok-add.ensures.ok)
    (fits_by_time g.T.Ord.cmp g.met.T.Ord.total g.T.Timed.timestamp g.met.T.Timed.by_time c.args.buckets.now.items c.args.item _ _ c.requires.fits) c.requires.rising).0

pub returns-clause-rising : goal.returns-clause-rising
returns-clause-rising g c =
    (more_in g.T.Timed.timestamp c.args.buckets.now.items c.args.bucket c.index_mut.result.now c.requires.within c.index_mut.ensures.value c.args.item c.add.new.self
    (adds_by_time g.T.Ord.cmp g.met.T.Ord.total g.T.Timed.timestamp g.met.T.Timed.by_time c.index_mut.result.now c.add.new.self c.args.item c.in_ok-add.ensures.ok)
    (fits_by_time g.T.Ord.cmp g.met.T.Ord.total g.T.Timed.timestamp g.met.T.Timed.by_time c.args.buckets.now.items c.args.item _ _ c.requires.fits) c.requires.rising).1

pub returns-clause-sorted : goal.returns-clause-sorted
returns-clause-sorted g c = record {
  from = λ one.
      (more_in (place_from g.T.Ord.cmp one) c.args.buckets.now.items c.args.bucket c.index_mut.result.now c.requires.within c.index_mut.ensures.value c.args.item c.add.new.self
      (adds_from g.T.Ord.cmp g.met.T.Ord.total one c.index_mut.result.now c.add.new.self c.args.item c.in_ok-add.ensures.ok)
      (fits_from g.T.Ord.cmp g.met.T.Ord.total one c.args.buckets.now.items c.args.item _ _ c.requires.fits) (c.requires.sorted.from one)).1;
}
