use Rattle.std.proofs.Common.{◌≡◌, ◌<◌, ◌<ℤ◌, ℕ, ℤ, Bool, true, List, [], All, length, get_or, pos, take, arith, subst}
use Rattle.std.specs.Cmp.{IsTotalOrder}
use Rattle.std.specs.declared.cmp.Ordering.{Ordering}
use Rattle.std.specs.Ordering.{int_cmp, is_eq, is_le}
use Rattle.std.proofs.lemmas.Int.{ints}
use Rattle.std.proofs.lemmas.List.{get_or_read, take_all}
use Rattle.std.proofs.lemmas.List.Elements.{All-weaker}
use Rattle.krb_tally.specs.Times.{HasEqual, LacksEqual}
use Rattle.krb_tally.specs.Inner.Buckets.{IsRising, Reaches, all_of, place_from}
use Rattle.krb_tally.proofs.OrderLaws.{lacks_equal, lacks_places}
use Rattle.krb_tally.proofs.TallyLaws.{found_in, lacks_all}
use Rattle.krb_tally.proofs.tally.has_in.Goals as goal

past : {X : Type 0} (cmp : X → X → Ordering) (eq : X → X → Bool) (ties : (x y : X) → eq x y ≡ is_eq (cmp x y)) (when : X → ℤ) (buckets : List (List X)) (at : ℕ) (item : X) → at ≡ length buckets
    → All (λ x. place_from cmp item x <ℤ pos 1) (all_of (take at buckets)) → LacksEqual when eq (all_of buckets) item
past cmp eq ties when buckets at item end early =
    lacks_equal cmp eq ties when (all_of buckets) item
    (All-weaker (λ x. place_from cmp item x <ℤ pos 1) (λ x. place_from cmp item x ≡ pos 1 → ⊥) (λ x before same. omega (arith, ints)) (all_of buckets)
    (subst (λ all. All (λ x. place_from cmp item x <ℤ pos 1) (all_of all)) (take_all at buckets (omega arith)) early))

nowhere : {X : Type 0} (cmp : X → X → Ordering) (eq : X → X → Bool) (ties : (x y : X) → eq x y ≡ is_eq (cmp x y)) (total : IsTotalOrder cmp) (when : X → ℤ)
    (law : (one other : X) → is_le (cmp one other) ≡ true → is_le (int_cmp (when one) (when other)) ≡ true) (buckets : List (List X)) (at : ℕ) (here : List X) (item : X)
    → at < length buckets → here ≡ get_or buckets at here → IsRising (place_from cmp item) (all_of buckets) → All (λ x. place_from cmp item x <ℤ pos 1) (all_of (take at buckets))
    → Reaches (place_from cmp item) buckets at (pos 1) → LacksEqual when eq here item → LacksEqual when eq (all_of buckets) item
nowhere cmp eq ties total when law buckets at here item within is rising early reached none =
    lacks_equal cmp eq ties when (all_of buckets) item
    (lacks_all (place_from cmp item) buckets at within rising (pos 1) early reached
    (subst (λ items. All (λ x. place_from cmp item x ≡ pos 1 → ⊥) items) (get_or_read buckets at here within is []) (lacks_places cmp eq ties total when law here item none)))

pub returns-then-bucket-buckets-clause-lacks : goal.returns-then-bucket-buckets-clause-lacks
returns-then-bucket-buckets-clause-lacks g c = λ _.
    let end = c.if-bucket-buckets.true in
    past g.T.Ord.cmp g.T.PartialEq.eq g.met.T.Ord.matches_eq g.T.Timed.timestamp c.args.buckets.now c.bucket_of-bucket.result c.args.item.now (omega arith) c.bucket_of-bucket.ensures.before

pub returns-clause-found : goal.returns-clause-found
returns-clause-found g c = λ same.
    let apart = c.if-bucket-buckets.false in
    let upto = c.bucket_of-bucket.ensures.within in
    let within : c.bucket_of-bucket.result < length c.args.buckets.now = omega arith in
    found_in g.T.Timed.timestamp g.T.PartialEq.eq c.args.buckets.now c.bucket_of-bucket.result c.args.item.now within
    (subst (λ items. HasEqual g.T.Timed.timestamp g.T.PartialEq.eq items c.args.item.now) (get_or_read c.args.buckets.now c.bucket_of-bucket.result c.index-buckets-bucket.result within c.index-buckets-bucket.is [])
    (c.has.ensures.found same))

pub returns-clause-lacks : goal.returns-clause-lacks
returns-clause-lacks g c = λ other.
    let apart = c.if-bucket-buckets.false in
    let upto = c.bucket_of-bucket.ensures.within in
    let within : c.bucket_of-bucket.result < length c.args.buckets.now = omega arith in
    nowhere g.T.Ord.cmp g.T.PartialEq.eq g.met.T.Ord.matches_eq g.met.T.Ord.total g.T.Timed.timestamp g.met.T.Timed.by_time c.args.buckets.now c.bucket_of-bucket.result c.index-buckets-bucket.result c.args.item.now
    within c.index-buckets-bucket.is (c.requires.from c.args.item.now) c.bucket_of-bucket.ensures.before (c.bucket_of-bucket.ensures.reached within) (c.has.ensures.lacks other)
