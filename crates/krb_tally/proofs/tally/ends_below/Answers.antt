use Rattle.std.proofs.Common.{pos}
use Rattle.krb_tally.specs.Inner.Buckets.{place_from}
use Rattle.krb_tally.proofs.TallyLaws.{ends_by, goes_on}
use Rattle.krb_tally.proofs.tally.ends_below.Goals as goal

pub returns : goal.returns
returns g c = record {
  before = λ first. goes_on (place_from g.T.Ord.cmp c.args.item.now) c.args.buckets.now c.args.at c.index-buckets-at.result c.last.result.now (pos 1) c.requires.within c.index-buckets-at.is
      (c.requires.sorted.from c.args.item.now) c.last.ensures.there (c.last.ensures.greatest_from c.args.item.now) (c.is_before.ensures.before first);
  reached = λ after. ends_by (place_from g.T.Ord.cmp c.args.item.now) c.args.buckets.now c.args.at c.index-buckets-at.result c.last.result.now (pos 1) c.requires.within c.index-buckets-at.is
      (c.requires.sorted.from c.args.item.now) c.last.ensures.there (c.is_before.ensures.from after);
}
