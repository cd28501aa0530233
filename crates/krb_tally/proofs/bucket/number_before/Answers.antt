use Rattle.std.proofs.Common.{◌-◌, ◌≤ℤ◌, ◌<ℤ◌, arith, get_or, of_z, rules, to_z}
use Rattle.std.specs.Int.{w64}
use Rattle.std.proofs.lemmas.Int.{ints}
use Rattle.krb_tally.proofs.BucketLaws.{early_before, late_from}
use Rattle.krb_tally.proofs.bucket.number_before.Goals as goal

pub returns-clause-before : goal.returns-clause-before
returns-clause-before g c =
    early_before g.T.Timed.timestamp c.args.items.now c.search.result c.args.time c.requires c.search.ensures.within
    (λ some one. let h = c.search.ensures.last some in let early : g.T.Timed.timestamp (get_or c.args.items.now (c.search.result - 1) one) <ℤ to_z w64 (of_z w64 c.args.time) = search rules in omega (arith, ints))

pub returns-clause-from : goal.returns-clause-from
returns-clause-from g c =
    late_from g.T.Timed.timestamp c.args.items.now c.search.result c.args.time c.requires
    (λ within one. let h = c.search.ensures.next within in let late : to_z w64 (of_z w64 c.args.time) ≤ℤ g.T.Timed.timestamp (get_or c.args.items.now c.search.result one) = search rules in omega (arith, ints))
