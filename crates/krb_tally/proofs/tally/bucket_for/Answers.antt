use Rattle.std.proofs.Common.{◌≡◌, ◌+◌, ◌-◌, ◌<ℤ◌, ℤ, All, arith, of_z, rules, subst, take, to_z}
use Rattle.std.specs.Int.{w64}
use Rattle.std.proofs.lemmas.Int.{ints}
use Rattle.krb_tally.specs.Inner.Buckets.{Reaches, all_of}
use Rattle.krb_tally.proofs.TallyLaws.{early_buckets}
use Rattle.krb_tally.proofs.tally.bucket_for.Goals as goal

pub returns : goal.returns
returns g c =
    let t : to_z w64 (of_z w64 c.args.moment) ≡ c.args.moment = omega (arith, ints) in
    record {
      within = c.search.ensures.within;
      before = early_buckets g.T.Timed.timestamp c.args.buckets.now c.search.result c.args.moment
          (λ some. subst (λ (moment : ℤ). All (λ item. g.T.Timed.timestamp item <ℤ moment) (all_of (take (c.search.result - 1 + 1) c.args.buckets.now))) t (let h = c.search.ensures.last some in search rules));
      reached = λ within. subst (λ (moment : ℤ). Reaches g.T.Timed.timestamp c.args.buckets.now c.search.result moment) t (let h = c.search.ensures.next within in search rules);
    }
