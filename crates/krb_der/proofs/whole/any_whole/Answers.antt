use Rattle.std.proofs.Common.{◌≡◌, ℕ, zero, suc, ◌*◌, ◌%◌, ◌^◌, ◌≤◌, length, true, false, refl, sym, ap, ◌∙◌, Some, arith, lit<}
use Rattle.std.proofs.lemmas.Int.{ints}
use Rattle.std.proofs.Math.Nat.{pow-le-pow_right}
use Rattle.krb_der.specs.Whole.{AreBytes}
use Rattle.krb_der.proofs.Numbers.{AreBytes-from}
use Rattle.krb_der.proofs.IntegerLaws.{whole_of-some}
use Rattle.krb_der.proofs.whole.any_whole.Goals as goal

-- how many contents of so many bytes there are
contents_of : (k : ℕ) → k ≤ 5 → (1 * 2 ^ (8 * k) % 2 ^ 64 ≡ 256 ^ k) × (256 ^ k ≤ 2 ^ 40)
contents_of k few = (exact k few, pow-le-pow_right (lit< tt) few)
  where
    exact : (k : ℕ) → k ≤ 5 → 1 * 2 ^ (8 * k) % 2 ^ 64 ≡ 256 ^ k
    exact zero few = refl
    exact (suc zero) few = refl
    exact (suc (suc zero)) few = refl
    exact (suc (suc (suc zero))) few = refl
    exact (suc (suc (suc (suc zero)))) few = refl
    exact (suc (suc (suc (suc (suc zero))))) few = refl
    exact (suc (suc (suc (suc (suc (suc k)))))) few = absurd (omega arith)

pub overflow_sub-result : goal.overflow_sub-result
overflow_sub-result c =
    let all = contents_of (length c.args.content.now) c.if-content-gt5.false in
    omega (arith, ints, all.0, all.1, c.number-number.ensures.small)

pub returns-then-is_negative : goal.returns-then-is_negative
returns-then-is_negative c =
    let all = contents_of (length c.args.content.now) c.if-content-gt5.false in
    let bytes : AreBytes c.args.content.now = AreBytes-from _ (λ i. omega (arith, c.type_inv.content i)) in
    ap Some (omega (arith, ints, all.0, all.1, c.number-number.ensures.value, c.number-number.ensures.small))
    ∙ sym (whole_of-some c.args.content.now true (sym c.is_redundant.ensures ∙ c.if-is_redundant.false) bytes c.if-content-gt5.false (sym c.is_negative.ensures ∙ c.if-is_negative.true))

pub returns-else-is_negative : goal.returns-else-is_negative
returns-else-is_negative c =
    let bytes : AreBytes c.args.content.now = AreBytes-from _ (λ i. omega (arith, c.type_inv.content i)) in
    ap Some (omega (arith, ints, c.number-number.ensures.value, c.number-number.ensures.small))
    ∙ sym (whole_of-some c.args.content.now false (sym c.is_redundant.ensures ∙ c.if-is_redundant.false) bytes c.if-content-gt5.false (sym c.is_negative.ensures ∙ c.if-is_negative.false))
