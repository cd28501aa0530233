use Rattle.std.proofs.Common.{◌≡◌, ◌-◌, ℕ, ℤ, ◌≤ℤ◌, ◌<◌, List, All, arith, subst, length, take, suc, rules, get_or, sym}
use Rattle.std.proofs.lemmas.List.{take_all}
use Rattle.krb_tally.specs.Inner.Buckets.{IsRising, place_from}
use Rattle.krb_tally.proofs.BucketLaws.{up_to}
use Rattle.krb_tally.proofs.bucket.Bucket.last.Goals as goal

greatest : {X : Type 0} (when : X → ℤ) (items shown : List X) (n : ℕ) (last : X) → 0 < length items → n ≡ length items → last ≡ get_or items (n - 1) last → IsRising when items → items ≡ shown
    → All (λ x. when x ≤ℤ when last) shown
greatest when items shown n last some len is rising seen =
    let whole : take (suc (n - 1)) items ≡ items = take_all (suc (n - 1)) items (omega arith) in
    let upto : All (λ x. when x ≤ℤ when (get_or items (n - 1) last)) (take (suc (n - 1)) items) = up_to when items (n - 1) last (omega arith) rising in
    subst (λ all. All (λ x. when x ≤ℤ when last) all) seen
    (subst (λ one. All (λ x. when x ≤ℤ when one) items) (sym is) (subst (λ all. All (λ x. when x ≤ℤ when (get_or items (n - 1) last)) all) whole upto))

placed : {X : Type 0} (items shown : List X) (n : ℕ) (last : X) → n ≡ length items → last ≡ get_or items (n - 1) last → items ≡ shown → last ≡ get_or shown (length shown - 1) last
placed items shown n last len is seen =
    subst (λ all. last ≡ get_or all (length all - 1) last) seen (subst (λ (m : ℕ). last ≡ get_or items (m - 1) last) len is)

pub returns-clause-place : goal.returns-clause-place
returns-clause-place g c =
    let len : c.len.result ≡ length c.self.inside.items.items = search rules in
    placed c.self.inside.items.items c.args.self.now c.len.result c.index.result.now len c.index.ensures c.self.view_is

pub returns-clause-greatest : goal.returns-clause-greatest
returns-clause-greatest g c =
    let len : c.len.result ≡ length c.self.inside.items.items = search rules in
    greatest g.T.Timed.timestamp c.self.inside.items.items c.args.self.now c.len.result c.index.result.now c.self.invariant.0 len c.index.ensures c.self.invariant.1.1.0 c.self.view_is

pub returns-clause-greatest_from : goal.returns-clause-greatest_from
returns-clause-greatest_from g c = λ one.
    let len : c.len.result ≡ length c.self.inside.items.items = search rules in
    greatest (place_from g.T.Ord.cmp one) c.self.inside.items.items c.args.self.now c.len.result c.index.result.now c.self.invariant.0 len c.index.ensures (c.self.invariant.1.1.1.from one) c.self.view_is
