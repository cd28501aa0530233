use Rattle.std.proofs.Common.{◌≡◌, ◌<◌, ◌≤ℤ◌, ◌<ℤ◌, ◌∙◌, ℕ, ℤ, Bool, true, true≢false, List, All, get_or, length, pos, take, drop, ap, arith, rules, subst, sym}
use Rattle.std.specs.Cmp.{IsTotalOrder}
use Rattle.std.specs.declared.cmp.Ordering.{Ordering}
use Rattle.std.specs.Ordering.{int_cmp, is_eq, is_le}
use Rattle.std.proofs.lemmas.List.{get_or_read}
use Rattle.krb_tally.specs.Times.{HasEqual, LacksEqual}
use Rattle.krb_tally.specs.Inner.Buckets.{IsRising, place_from}
use Rattle.krb_tally.proofs.BucketLaws.{lacks}
use Rattle.krb_tally.proofs.OrderLaws.{equal_there, lacks_equal, same_time}
use Rattle.krb_tally.proofs.bucket.Bucket.has.Goals as goal

nowhere : {X : Type 0} (cmp : X → X → Ordering) (eq : X → X → Bool) (ties : (x y : X) → eq x y ≡ is_eq (cmp x y)) (when : X → ℤ) (items slice shown : List X) (at : ℕ) (item : X) → slice ≡ items → items ≡ shown
    → IsRising (place_from cmp item) items → All (λ x. place_from cmp item x <ℤ pos 1) (take at slice) → All (λ x. pos 1 ≤ℤ place_from cmp item x) (drop at slice)
    → ((d : X) → at < length items → place_from cmp item (get_or items at d) ≡ pos 1 → ⊥) → LacksEqual when eq shown item
nowhere cmp eq ties when items slice shown at item same seen rising early late other =
    subst (λ all. LacksEqual when eq all item) seen
    (lacks_equal cmp eq ties when items item
    (λ k d. lacks (place_from cmp item) items at (pos 1)
    (subst (λ all. All (λ x. place_from cmp item x <ℤ pos 1) (take at all)) same early)
    (subst (λ all. All (λ x. pos 1 ≤ℤ place_from cmp item x) (drop at all)) same late)
    d rising (other d) k d))

here : {X : Type 0} (cmp : X → X → Ordering) (eq : X → X → Bool) (ties : (x y : X) → eq x y ≡ is_eq (cmp x y)) (total : IsTotalOrder cmp) (when : X → ℤ)
    (law : (one other : X) → is_le (cmp one other) ≡ true → is_le (int_cmp (when one) (when other)) ≡ true) (items shown : List X) (at : ℕ) (one item : X)
    → at < length items → one ≡ get_or items at one → items ≡ shown → is_eq (cmp one item) ≡ true → HasEqual when eq shown item
here cmp eq ties total when law items shown at one item within is seen same =
    subst (λ all. HasEqual when eq all item) seen
    (record { one = one; there = (at, within, sym is); same_time = same_time cmp total when law one item same; equal = ties one item ∙ same })

pub returns-then-at-len-clause-lacks : goal.returns-then-at-len-clause-lacks
returns-then-at-len-clause-lacks g c = λ _.
    let len : c.len.result ≡ length c.self.inside.items.items = search rules in
    let end = c.if-at-len.true in
    nowhere g.T.Ord.cmp g.T.PartialEq.eq g.met.T.Ord.matches_eq g.T.Timed.timestamp c.self.inside.items.items c.as_slice.result.now c.args.self.now c.number_below-at.result c.args.item.now
    c.as_slice.ensures.value c.self.view_is (c.self.invariant.1.1.1.from c.args.item.now) c.number_below-at.ensures.before c.number_below-at.ensures.from (λ d within _. omega arith)

pub returns-clause-found : goal.returns-clause-found
returns-clause-found g c = λ same.
    let len : c.len.result ≡ length c.self.inside.items.items = search rules in
    let apart = c.if-at-len.false in
    let slice = ap (λ all. length all) c.as_slice.ensures.value in
    let upto = c.number_below-at.ensures.within in
    here g.T.Ord.cmp g.T.PartialEq.eq g.met.T.Ord.matches_eq g.met.T.Ord.total g.T.Timed.timestamp g.met.T.Timed.by_time c.self.inside.items.items c.args.self.now c.number_below-at.result c.index.result.now c.args.item.now
    (omega arith) c.index.ensures c.self.view_is (sym (ap is_eq c.cmp.ensures) ∙ (sym c.is_eq.ensures ∙ same))

pub returns-clause-lacks : goal.returns-clause-lacks
returns-clause-lacks g c = λ other.
    nowhere g.T.Ord.cmp g.T.PartialEq.eq g.met.T.Ord.matches_eq g.T.Timed.timestamp c.self.inside.items.items c.as_slice.result.now c.args.self.now c.number_below-at.result c.args.item.now
    c.as_slice.ensures.value c.self.view_is (c.self.invariant.1.1.1.from c.args.item.now) c.number_below-at.ensures.before c.number_below-at.ensures.from
    (λ d within at. true≢false
    (sym (equal_there (g.T.Ord.cmp c.index.result.now c.args.item.now) (ap (λ one. place_from g.T.Ord.cmp c.args.item.now one) (get_or_read c.self.inside.items.items c.number_below-at.result c.index.result.now within c.index.ensures d) ∙ at))
    ∙ (sym (ap is_eq c.cmp.ensures) ∙ (sym c.is_eq.ensures ∙ other))))
