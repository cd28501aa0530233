use Rattle.std.proofs.Common.{◌≡◌, ◌<ℤ◌, ◌≤ℤ◌, ◌≤◌, ℕ, ℤ, List, All, take, drop, ap, sym, arith, length, rules, ◌-◌, ◌∙◌, to_z, of_z}
use Rattle.std.specs.Int.{w64}
use Rattle.std.proofs.lemmas.Int.{ints}
use Rattle.krb_tally.specs.Times.{number_since}
use Rattle.krb_tally.proofs.BucketLaws.{number_from}
use Rattle.krb_tally.proofs.bucket.Bucket.since.Goals as goal

counted : {X : Type 0} (when : X → ℤ) (items slice shown : List X) (at n : ℕ) (said oldest : ℤ) → slice ≡ items → items ≡ shown → said ≡ oldest → n ≡ length items → at ≤ length slice
    → All (λ x. when x <ℤ said) (take at slice) → All (λ x. said ≤ℤ when x) (drop at slice) → n - at ≡ number_since when oldest shown
counted when items slice shown at n said oldest same seen t len within early late =
    ap (λ (m : ℕ). m - at) (len ∙ ap (λ all. length all) (sym same))
    ∙ (number_from when slice at said early late within
    ∙ (ap (λ all. number_since when said all) (same ∙ seen) ∙ ap (λ (one : ℤ). number_since when one shown) t))

pub returns : goal.returns
returns g c =
    let t : to_z w64 (of_z w64 c.args.oldest) ≡ c.args.oldest = omega (arith, ints) in
    let len : c.len.result ≡ length c.self.inside.items.items = search rules in
    counted g.T.Timed.timestamp c.self.inside.items.items c.as_slice.result.now c.args.self.now c.number_before.result c.len.result (to_z w64 (of_z w64 c.args.oldest)) c.args.oldest
    c.as_slice.ensures.value c.self.view_is t len c.number_before.ensures.within c.number_before.ensures.before c.number_before.ensures.from
