use Rattle.std.proofs.Common.{◌≡◌, ℤ, ◌≤ℤ◌, ◌<◌, List, All, get_or, length, sym, subst}
use Rattle.krb_tally.specs.Inner.Buckets.{IsRising, place_from}
use Rattle.krb_tally.proofs.BucketLaws.{from_on}
use Rattle.krb_tally.proofs.bucket.Bucket.first.Goals as goal

least : {X : Type 0} (when : X → ℤ) (items shown : List X) (first : X) → 0 < length items → first ≡ get_or items 0 first → IsRising when items → items ≡ shown
    → All (λ x. when first ≤ℤ when x) shown
least when items shown first some is rising seen =
    subst (λ all. All (λ x. when first ≤ℤ when x) all) seen
    (subst (λ one. All (λ x. when one ≤ℤ when x) items) (sym is) (from_on when items 0 first some rising))

pub returns-clause-least : goal.returns-clause-least
returns-clause-least g c =
    least g.T.Timed.timestamp c.self.inside.items.items c.args.self.now c.index.result.now c.self.invariant.0 c.index.ensures c.self.invariant.1.1.0 c.self.view_is

pub returns-clause-least_from : goal.returns-clause-least_from
returns-clause-least_from g c = λ one.
    least (place_from g.T.Ord.cmp one) c.self.inside.items.items c.args.self.now c.index.result.now c.self.invariant.0 c.index.ensures (c.self.invariant.1.1.1.from one) c.self.view_is
