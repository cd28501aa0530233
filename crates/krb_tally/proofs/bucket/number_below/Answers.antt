use Rattle.std.proofs.Common.{pos, rules}
use Rattle.krb_tally.specs.Inner.Buckets.{place_from}
use Rattle.krb_tally.proofs.BucketLaws.{early_before, late_from}
use Rattle.krb_tally.proofs.bucket.number_below.Goals as goal

pub returns-clause-before : goal.returns-clause-before
returns-clause-before g c =
    early_before (place_from g.T.Ord.cmp c.args.item.now) c.args.items.now c.search.result (pos 1) (c.requires.from c.args.item.now) c.search.ensures.within
    (λ some. let h = c.search.ensures.last some in search rules)

pub returns-clause-from : goal.returns-clause-from
returns-clause-from g c =
    late_from (place_from g.T.Ord.cmp c.args.item.now) c.args.items.now c.search.result (pos 1) (c.requires.from c.args.item.now)
    (λ within. let h = c.search.ensures.next within in search rules)
