use Rattle.std.proofs.Common.{◌≡◌, ◌-◌, ◌<◌, ◌≤ℤ◌, ℕ, ℤ, List, [], All, Contains, Some, slice_get, length, get_or, arith, refl, subst}
use Rattle.std.proofs.lemmas.List.{get_or_read}
use Rattle.std.proofs.lemmas.Option.{slice_get_read}
use Rattle.krb_tally.specs.Inner.Buckets.{IsRising, all_of}
use Rattle.krb_tally.proofs.TallyLaws.{last_greatest, last_of_all, somewhere}
use Rattle.krb_tally.proofs.tally.last_of.Goals as goal

there : {X : Type 0} (when : X → ℤ) (buckets : List (List X)) (at : ℕ) (here : List X) (last : X) → at < length buckets → here ≡ get_or buckets at here → IsRising when (all_of buckets)
    → Contains here last → Contains (all_of buckets) last
there when buckets at here last within is rising one =
    somewhere when buckets at within rising last (subst (λ items. Contains items last) (get_or_read buckets at here within is []) one)

greatest : {X : Type 0} (when : X → ℤ) (buckets : List (List X)) (at : ℕ) (here : List X) (last : X) → at < length buckets → here ≡ get_or buckets at here → IsRising when (all_of buckets)
    → Contains here last → All (λ x. when x ≤ℤ when last) here → at ≡ length buckets - 1 → All (λ x. when x ≤ℤ when last) (all_of buckets)
greatest when buckets at here last within is rising one most end =
    last_greatest when buckets at within rising last (subst (λ items. Contains items last) (get_or_read buckets at here within is []) one)
    (subst (λ items. All (λ x. when x ≤ℤ when last) items) (get_or_read buckets at here within is []) most) (omega arith)

end : {X : Type 0} (buckets : List (List X)) (at : ℕ) (here : List X) (last : X) → at < length buckets → here ≡ get_or buckets at here → at ≡ length buckets - 1
    → Contains here last → last ≡ get_or here (length here - 1) last → slice_get (all_of buckets) (length (all_of buckets) - 1) ≡ Some last
end buckets at here last within is at_end one place =
    let stands : here ≡ get_or buckets at [] = get_or_read buckets at here within is [] in
    let some : 0 < length here = let inside = one.1 in omega arith in
    let got : slice_get here (length here - 1) ≡ Some last = slice_get_read here (length here) (length here - 1) last refl (omega arith) place in
    last_of_all buckets at last within (omega arith) (subst (λ items. 0 < length items) stands some)
    (subst (λ items. slice_get items (length items - 1) ≡ Some last) stands got)

pub returns-clause-last : goal.returns-clause-last
returns-clause-last g c =
    let some = c.if-is_empty.false in
    let empty = c.is_empty.ensures in
    end c.args.buckets.now (length c.args.buckets.now - 1) c.index-buckets-buckets.result c.last.result.now (grind arith) c.index-buckets-buckets.is (omega arith) c.last.ensures.there c.last.ensures.place

pub returns-clause-there : goal.returns-clause-there
returns-clause-there g c =
    let some = c.if-is_empty.false in
    let empty = c.is_empty.ensures in
    there g.T.Timed.timestamp c.args.buckets.now (length c.args.buckets.now - 1) c.index-buckets-buckets.result c.last.result.now (grind arith) c.index-buckets-buckets.is c.requires c.last.ensures.there

pub returns-clause-greatest : goal.returns-clause-greatest
returns-clause-greatest g c =
    let some = c.if-is_empty.false in
    let empty = c.is_empty.ensures in
    greatest g.T.Timed.timestamp c.args.buckets.now (length c.args.buckets.now - 1) c.index-buckets-buckets.result c.last.result.now (grind arith) c.index-buckets-buckets.is c.requires c.last.ensures.there
    c.last.ensures.greatest (omega arith)
