use Rattle.std.proofs.Common.{◌≡◌, ◌≢◌, ◌<◌, ◌≤ℤ◌, ◌<ℤ◌, ℕ, ℤ, List, All, get_or, take, drop, length, ap, subst, ◌∙◌, arith, to_z, of_z, rules}
use Rattle.std.specs.Int.{w64}
use Rattle.std.proofs.lemmas.Int.{ints}
use Rattle.std.proofs.lemmas.List.{get_or_read}
use Rattle.krb_tally.specs.Inner.Buckets.{IsRising}
use Rattle.krb_tally.proofs.BucketLaws.{lacks}
use Rattle.krb_tally.proofs.bucket.Bucket.find.Goals.{else-at-len-via-then-at-len+else-timestamp-time, else-at-len-via-else-at-len}
use Rattle.krb_tally.proofs.bucket.Bucket.find.Goals as goal

nowhere : {X : Type 0} (when : X → ℤ) (items slice shown : List X) (at : ℕ) (said time : ℤ) → slice ≡ items → items ≡ shown → said ≡ time → IsRising when items
    → All (λ x. when x <ℤ said) (take at slice) → All (λ x. said ≤ℤ when x) (drop at slice)
    → ((d : X) → at < length items → when (get_or items at d) ≡ time → ⊥) → All (λ x. when x ≢ time) shown
nowhere when items slice shown at said time same seen t rising early late other =
    subst (λ all. All (λ x. when x ≢ time) all) seen
    (λ k d. lacks when items at time
    (subst (λ (one : ℤ). All (λ x. when x <ℤ one) (take at items)) t (subst (λ all. All (λ x. when x <ℤ said) (take at all)) same early))
    (subst (λ (one : ℤ). All (λ x. one ≤ℤ when x) (drop at items)) t (subst (λ all. All (λ x. said ≤ℤ when x) (drop at all)) same late))
    d rising (other d) k d)

pub returns-else-at-len : goal.returns-else-at-len
returns-else-at-len g c =
    let t : to_z w64 (of_z w64 c.args.time) ≡ c.args.time = omega (arith, ints) in
    let len : c.len.result ≡ length c.self.inside.items.items = search rules in
    nowhere g.T.Timed.timestamp c.self.inside.items.items c.as_slice.result.now c.args.self.now c.number_before-at.result (to_z w64 (of_z w64 c.args.time)) c.args.time
    c.as_slice.ensures.value c.self.view_is t c.self.invariant.1.1.0 c.number_before-at.ensures.before c.number_before-at.ensures.from
    (λ d within is. elim c.else-at-len.branch [
      | else-at-len-via-then-at-len+else-timestamp-time w ↦
          let other = w.if-timestamp-time.false in
          let read = get_or_read c.self.inside.items.items c.number_before-at.result w.index.result.now within w.index.ensures d in
          let said = w.timestamp.ensures in
          other (ap (λ (one : ℤ). of_z w64 one) (said ∙ (ap g.T.Timed.timestamp read ∙ is)))
      | else-at-len-via-else-at-len w ↦ let past = w.if-at-len.false in omega arith
    ])
