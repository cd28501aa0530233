-- One flag alone.
use Rattle.std.proofs.Common.{◌≡◌, ℕ, ◌-◌, ◌*◌, ◌/◌, ◌%◌, ◌^◌, ◌<◌, ◌↔◌, sym, subst, inl, inr, arith}
use Rattle.std.proofs.lemmas.Nat.{one_shl}
use Rattle.std.proofs.lemmas.Nat.Bits.{bit_at-pow_same, bit_at-pow_other}
use Rattle.std.proofs.lemmas.Bool.{cases_eq}
use Rattle.std.proofs.lemmas.Bool.Decides.{nat_tests}
use Rattle.krb_der.specs.Flags.{HasBit, weight}

-- what a bit that is set is
set_is : (flags n : ℕ) → HasBit flags n → (n < 32) × (flags / weight n % 2 ≡ 1)
set_is flags n has = (grind (arith, nat_tests), grind (arith, nat_tests))

is_set : (flags n : ℕ) → n < 32 → flags / weight n % 2 ≡ 1 → HasBit flags n
is_set flags n small one = grind (arith, nat_tests)

pub only_flag : (b n : ℕ) → b < 32 → HasBit (weight b) n ↔ ((n ≡ b) × (n < 32))
only_flag b n small = (
  λ set. let has = set_is (weight b) n set in elim (cases_eq n b) [
    | inl same ↦ (same, has.0)
    | inr other ↦ absurd (omega (arith, has.1, bit_at-pow_other (31 - b) (31 - n) (λ e. other (omega (arith, e, small, has.0)))))
  ],
  λ is. is_set (weight b) n is.1 (subst (λ k. weight b / weight k % 2 ≡ 1) (sym is.0) (bit_at-pow_same (31 - b))),
)

-- the number as it is computed
pub shifted : (b : ℕ) → 1 * 2 ^ (31 - b) % 2 ^ 32 ≡ weight b
shifted b = one_shl (31 - b) 32 (omega arith)
