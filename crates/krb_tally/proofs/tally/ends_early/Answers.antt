use Rattle.std.proofs.Common.{◌≡◌, ◌≤ℤ◌, ◌<ℤ◌, ℤ, true, false, arith, int_lt, of_z, to_z}
use Rattle.std.specs.Int.{w64}
use Rattle.std.proofs.lemmas.Int.{ints}
use Rattle.krb_tally.proofs.TallyLaws.{ends_by, goes_on}
use Rattle.krb_tally.proofs.tally.ends_early.Goals as goal

is_less : (one other : ℤ) → int_lt one other ≡ true → one <ℤ other
is_less one other h = grind (arith, ints)

isnt_less : (one other : ℤ) → int_lt one other ≡ false → other ≤ℤ one
isnt_less one other h = grind (arith, ints)

pub returns : goal.returns
returns g c = record {
  before = λ first. goes_on g.T.Timed.timestamp c.args.buckets.now c.args.at c.index-buckets-at.result c.last.result.now c.args.moment c.requires.within c.index-buckets-at.is
      c.requires.rising c.last.ensures.there c.last.ensures.greatest (let less = is_less (to_z w64 (of_z w64 c.timestamp.result)) (to_z w64 (of_z w64 c.args.moment)) first in let said = c.timestamp.ensures in omega (arith, ints));
  reached = λ after. ends_by g.T.Timed.timestamp c.args.buckets.now c.args.at c.index-buckets-at.result c.last.result.now c.args.moment c.requires.within c.index-buckets-at.is
      c.requires.rising c.last.ensures.there (let upto = isnt_less (to_z w64 (of_z w64 c.timestamp.result)) (to_z w64 (of_z w64 c.args.moment)) after in let said = c.timestamp.ensures in omega (arith, ints));
}
