use Rattle.std.proofs.Common.{pos, rules}
use Rattle.krb_tally.specs.Inner.Buckets.{place_from}
use Rattle.krb_tally.proofs.TallyLaws.{early_buckets}
use Rattle.krb_tally.proofs.tally.bucket_of.Goals as goal

pub returns : goal.returns
returns g c = record {
  within = c.search.ensures.within;
  before = early_buckets (place_from g.T.Ord.cmp c.args.item.now) c.args.buckets.now c.search.result (pos 1) (λ some. let h = c.search.ensures.last some in search rules);
  reached = λ within. let h = c.search.ensures.next within in search rules;
}
