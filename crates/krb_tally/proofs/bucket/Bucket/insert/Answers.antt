use Rattle.std.proofs.Common.{◌≡◌, ℕ, ℤ, List, ◌≤ℤ◌, ◌<ℤ◌, All, pos, take, drop, length, ap, sym, subst, arith}
use Rattle.std.specs.List.{insert}
use Rattle.krb_tally.specs.Inner.Buckets.{AddsIn, place_from}
use Rattle.krb_tally.proofs.BucketLaws.{added_length, added_most, added_rising, adds}
use Rattle.krb_tally.proofs.OrderLaws.{adds_by_time, adds_from, own}
use Rattle.krb_tally.proofs.bucket.Bucket.insert.Goals as goal

added : {X : Type 0} (when : X → ℤ) (items slice new : List X) (at : ℕ) (item : X) → when item ≡ pos 1 → slice ≡ items
    → All (λ x. when x <ℤ pos 1) (take at slice) → All (λ x. pos 1 ≤ℤ when x) (drop at slice) → new ≡ insert items at item → AddsIn when items item new
added when items slice new at item own same early late is =
    adds when items at item
    (subst (λ (one : ℤ). All (λ x. when x <ℤ one) (take at items)) (sym own) (subst (λ all. All (λ x. when x <ℤ pos 1) (take at all)) same early))
    (subst (λ (one : ℤ). All (λ x. one ≤ℤ when x) (drop at items)) (sym own) (subst (λ all. All (λ x. pos 1 ≤ℤ when x) (drop at all)) same late)) new is

pub invariant_of-self-2 : goal.invariant_of-self-2
invariant_of-self-2 g c =
    let here : AddsIn (place_from g.T.Ord.cmp c.args.item) c.self.inside.items.items c.args.item c.insert.new.self.items =
    added (place_from g.T.Ord.cmp c.args.item) c.self.inside.items.items c.as_slice.result.now c.insert.new.self.items c.number_below-at.result c.args.item (own g.T.Ord.cmp g.met.T.Ord.total c.args.item)
    c.as_slice.ensures.value c.number_below-at.ensures.before c.number_below-at.ensures.from c.in_ok-insert.ensures.items in (
      added_length (place_from g.T.Ord.cmp c.args.item) c.self.inside.items.items c.insert.new.self.items c.args.item here,
      (
        added_most (place_from g.T.Ord.cmp c.args.item) 1024 c.self.inside.items.items c.insert.new.self.items c.args.item here
            (let len = ap (λ items. length items) c.self.view_is in let few = c.requires in omega arith),
        (
          added_rising g.T.Timed.timestamp c.self.inside.items.items c.insert.new.self.items c.args.item c.self.invariant.1.1.0
              (adds_by_time g.T.Ord.cmp g.met.T.Ord.total g.T.Timed.timestamp g.met.T.Timed.by_time c.self.inside.items.items c.insert.new.self.items c.args.item here),
          record {
            from = λ one. added_rising (place_from g.T.Ord.cmp one) c.self.inside.items.items c.insert.new.self.items c.args.item (c.self.invariant.1.1.1.from one)
                (adds_from g.T.Ord.cmp g.met.T.Ord.total one c.self.inside.items.items c.insert.new.self.items c.args.item here);
          },
        ),
      ),
    )

pub returns-clause-ok : goal.returns-clause-ok
returns-clause-ok g c =
    subst (λ old. AddsIn (place_from g.T.Ord.cmp c.args.item) old c.args.item c.insert.new.self.items) c.self.view_is
    (added (place_from g.T.Ord.cmp c.args.item) c.self.inside.items.items c.as_slice.result.now c.insert.new.self.items c.number_below-at.result c.args.item (own g.T.Ord.cmp g.met.T.Ord.total c.args.item)
    c.as_slice.ensures.value c.number_below-at.ensures.before c.number_below-at.ensures.from c.in_ok-insert.ensures.items)
