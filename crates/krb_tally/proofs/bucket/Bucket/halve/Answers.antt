use Rattle.std.proofs.Common.{ap, sym, subst, arith, length, length-append, drop, take}
use Rattle.std.proofs.lemmas.List.{length-drop, take-append-drop}
use Rattle.krb_tally.specs.Inner.Buckets.{IsRising}
use Rattle.krb_tally.proofs.BucketLaws.{rising_drop, rising_take}
use Rattle.krb_tally.proofs.OrderLaws.{is_bucket}
use Rattle.krb_tally.proofs.bucket.Bucket.halve.Goals as goal

pub invariant_of-result : goal.invariant_of-result
invariant_of-result g c =
    let len = ap (λ items. length items) c.self.view_is in
    let half = ap (λ items. length items) c.in_ok-items.ensures.tail in
    let rest = length-drop 512 c.self.inside.items.items in
    let full = c.requires in
    let most = c.self.invariant.1.0 in
    is_bucket g.T.Timed.timestamp g.T.Ord.cmp c.self.inside.items.items c.in_ok-items.items.items (omega arith) (omega arith)
    (λ by rising. subst (λ items. IsRising by items) (sym c.in_ok-items.ensures.tail) (rising_drop by 512 c.self.inside.items.items rising)) c.self.invariant.1.1.0 c.self.invariant.1.1.1

pub invariant_of-self-2 : goal.invariant_of-self-2
invariant_of-self-2 g c =
    let len = ap (λ items. length items) c.self.view_is in
    let half = ap (λ items. length items) c.in_ok-items.ensures.items in
    let rest = length-drop 512 c.self.inside.items.items in
    let whole = ap (λ items. length items) (take-append-drop 512 c.self.inside.items.items) in
    let sum = length-append (take 512 c.self.inside.items.items) (drop 512 c.self.inside.items.items) in
    let full = c.requires in
    let most = c.self.invariant.1.0 in
    is_bucket g.T.Timed.timestamp g.T.Ord.cmp c.self.inside.items.items c.split_off.new.self.items (omega arith) (omega arith)
    (λ by rising. subst (λ items. IsRising by items) (sym c.in_ok-items.ensures.items) (rising_take by 512 c.self.inside.items.items rising)) c.self.invariant.1.1.0 c.self.invariant.1.1.1
