use Rattle.std.proofs.Common.{◌≡◌, ◌+◌, ◌<◌, ◌≤ℤ◌, ℕ, suc, ℤ, List, [], All, Contains, length, get_or, add-one, pos, sym, subst, arith}
use Rattle.std.proofs.lemmas.Int.{ints}
use Rattle.std.proofs.lemmas.List.{get_or_read}
use Rattle.krb_tally.specs.Inner.Buckets.{Fits, IsRising, all_of, place_from}
use Rattle.krb_tally.proofs.TallyLaws.{half_lower, half_upper}
use Rattle.krb_tally.proofs.tally.half_for.Goals as goal

lower_one : {X : Type 0} (when : X → ℤ) (buckets : List (List X)) (lower at : ℕ) (here : List X) (first : X) (time : ℤ) → at ≡ suc lower → suc lower < length buckets → here ≡ get_or buckets at here
    → Fits when buckets time lower (suc (suc lower)) → All (λ x. when first ≤ℤ when x) here → time ≤ℤ when first → Fits when buckets time lower (suc lower)
lower_one when buckets lower at here first time next within is fits least upto =
    half_lower when buckets lower first time within fits
    (subst (λ items. All (λ x. when first ≤ℤ when x) items) (get_or_read buckets (suc lower) here within (subst (λ (n : ℕ). here ≡ get_or buckets n here) next is) []) least) upto

upper_one : {X : Type 0} (when : X → ℤ) (buckets : List (List X)) (lower at : ℕ) (here : List X) (first : X) (time : ℤ) → at ≡ suc lower → suc lower < length buckets → here ≡ get_or buckets at here
    → IsRising when (all_of buckets) → Fits when buckets time lower (suc (suc lower)) → Contains here first → when first ≤ℤ time → Fits when buckets time at (suc at)
upper_one when buckets lower at here first time next within is rising fits there from =
    subst (λ (n : ℕ). Fits when buckets time n (suc n)) (sym next)
    (half_upper when buckets lower first time within rising fits
    (subst (λ items. Contains items first) (get_or_read buckets (suc lower) here within (subst (λ (n : ℕ). here ≡ get_or buckets n here) next is) []) there) from)

pub returns-then-is_before-clause-fits : goal.returns-then-is_before-clause-fits
returns-then-is_before-clause-fits g c =
    let early = c.is_before.ensures.before c.if-is_before.true in
    upper_one (place_from g.T.Ord.cmp c.args.item.now) c.args.buckets.now c.args.lower (c.args.lower + 1) c.index-buckets-lower.result c.first.result.now (pos 1) (add-one c.args.lower) c.requires.within
    c.index-buckets-lower.is (c.requires.sorted.from c.args.item.now) c.requires.fits c.first.ensures.there (omega (arith, ints))

pub returns-else-is_before-clause-fits : goal.returns-else-is_before-clause-fits
returns-else-is_before-clause-fits g c =
    lower_one (place_from g.T.Ord.cmp c.args.item.now) c.args.buckets.now c.args.lower (c.args.lower + 1) c.index-buckets-lower.result c.first.result.now (pos 1) (add-one c.args.lower) c.requires.within
    c.index-buckets-lower.is c.requires.fits (c.first.ensures.least_from c.args.item.now) (c.is_before.ensures.from c.if-is_before.false)
