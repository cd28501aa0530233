use Rattle.std.proofs.Common.{ap, sym, subst, arith, length}
use Rattle.krb_tally.specs.Inner.Buckets.{IsRising}
use Rattle.krb_tally.proofs.BucketLaws.{rising_remove}
use Rattle.krb_tally.proofs.OrderLaws.{is_bucket}
use Rattle.krb_tally.proofs.bucket.Bucket.take.Goals as goal

pub invariant_of-self : goal.invariant_of-self
invariant_of-self g c =
    let len = ap (λ items. length items) c.self.view_is in
    let others = c.requires.others in
    let within = c.requires.within in
    let most = c.self.invariant.1.0 in
    is_bucket g.T.Timed.timestamp g.T.Ord.cmp c.self.inside.items.items c.remove.new.self.items (omega (arith, c.remove.ensures.len)) (omega (arith, c.remove.ensures.len))
    (λ by rising. subst (λ items. IsRising by items) (sym c.remove.ensures.items) (rising_remove by c.self.inside.items.items c.args.at c.remove.result (omega arith) rising))
    c.self.invariant.1.1.0 c.self.invariant.1.1.1
