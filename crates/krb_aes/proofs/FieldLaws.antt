-- The product of bytes is linear in its second factor; so is a sum of entries at the bits of a byte.
use Rattle.std.proofs.Common.{◌≡◌, ◌⊎◌, ℕ, zero, suc, ◌+◌, ◌*◌, ◌%◌, ◌^◌, ◌<◌, refl, List, get_or, sym, ap, ◌∙◌, arith, add-zero, bit_xor, inl, inr}
use Rattle.std.specs.Int.{bit_at}
use Rattle.std.specs.Int.Bits.{xor_assoc, xor_self, xor_zero_r}
use Rattle.std.proofs.lemmas.Nat.{xor_block, xor_comm, pow_pos}
use Rattle.std.proofs.Math.Nat.{zero-mul, one-mul}
use Rattle.std.proofs.lemmas.Nat.Bits.{bit_at_xor, bit_at-lt}
use Rattle.krb_aes.specs.Field.{carryless, remainder, product}

pub xor_zero_l : (a : ℕ) → bit_xor 0 a ≡ a
xor_zero_l a = xor_comm 0 a ∙ xor_zero_r a

pub xor_exchange : (a b c d : ℕ) → bit_xor (bit_xor a b) (bit_xor c d) ≡ bit_xor (bit_xor a c) (bit_xor b d)
xor_exchange a b c d =
    xor_assoc a b (bit_xor c d)
    ∙ ap (bit_xor a) (sym (xor_assoc b c d) ∙ ap (λ x. bit_xor x d) (xor_comm b c) ∙ xor_assoc c b d)
    ∙ sym (xor_assoc a c (bit_xor b d))

shifted_xor : (a b n : ℕ) → bit_xor a b * 2 ^ n ≡ bit_xor (a * 2 ^ n) (b * 2 ^ n)
shifted_xor a b n =
    let both : bit_xor (a * 2 ^ n + 0) (b * 2 ^ n + 0) ≡ bit_xor a b * 2 ^ n + 0 =
    xor_block n a b 0 0 (pow_pos n) (pow_pos n) in
    sym (simp add-zero at both)

bit_cases : (s : ℕ) → s < 2 → (s ≡ 0) ⊎ (s ≡ 1)
bit_cases s below = grind arith

-- a coefficient times a sum, and a sum of coefficients times a number
times_xor : (s x y : ℕ) → s < 2 → s * bit_xor x y ≡ bit_xor (s * x) (s * y)
times_xor s x y below =
    elim (bit_cases s below) [
      | inl e ↦ rw (e, zero-mul x, zero-mul y, zero-mul (bit_xor x y)) refl
      | inr e ↦ rw (e, one-mul x, one-mul y, one-mul (bit_xor x y)) refl
    ]

xor_times : (s t x : ℕ) → s < 2 → t < 2 → ((s + t) % 2) * x ≡ bit_xor (s * x) (t * x)
xor_times s t x s_below t_below =
    elim (bit_cases s s_below) [
      | inl e ↦ elim (bit_cases t t_below) [
        | inl f ↦ rw (e, f, zero-mul x) refl
        | inr f ↦ rw (e, f, zero-mul x, one-mul x) (sym (xor_zero_l x))
      ]
      | inr e ↦ elim (bit_cases t t_below) [
        | inl f ↦ rw (e, f, zero-mul x, one-mul x) (sym (xor_zero_r x))
        | inr f ↦ rw (e, f, zero-mul x, one-mul x) (sym (xor_self x))
      ]
    ]

carryless-xor : (n a b c : ℕ) → carryless n a (bit_xor b c) ≡ bit_xor (carryless n a b) (carryless n a c)
unfolding carryless
carryless-xor zero a b c = refl
carryless-xor (suc n) a b c =
    let bit = bit_at a n in
    let before = carryless-xor n a b c in
    let last : bit * (bit_xor b c * 2 ^ n) ≡ bit_xor (bit * (b * 2 ^ n)) (bit * (c * 2 ^ n)) =
    ap (λ x. bit * x) (shifted_xor b c n) ∙ times_xor bit (b * 2 ^ n) (c * 2 ^ n) (bit_at-lt a n) in
    rw (before, last) (xor_exchange (carryless n a b) (carryless n a c) (bit * (b * 2 ^ n)) (bit * (c * 2 ^ n)))

remainder-xor : (n p q : ℕ) → remainder n (bit_xor p q) ≡ bit_xor (remainder n p) (remainder n q)
unfolding remainder
remainder-xor zero p q = refl
remainder-xor (suc n) p q =
    let m = 0x11b * 2 ^ n in
    let s = bit_at p (8 + n) in
    let t = bit_at q (8 + n) in
    let both : bit_at (bit_xor p q) (8 + n) * m ≡ bit_xor (s * m) (t * m) =
    ap (λ x. x * m) (bit_at_xor p q (8 + n)) ∙ xor_times s t m (bit_at-lt p (8 + n)) (bit_at-lt q (8 + n)) in
    ap (remainder n) (ap (bit_xor (bit_xor p q)) both ∙ xor_exchange p q (s * m) (t * m))
    ∙ remainder-xor n (bit_xor p (s * m)) (bit_xor q (t * m))

pub product-xor : (a b c : ℕ) → product a (bit_xor b c) ≡ bit_xor (product a b) (product a c)
unfolding product
product-xor a b c = ap (remainder 7) (carryless-xor 8 a b c) ∙ remainder-xor 7 (carryless 8 a b) (carryless 8 a c)

-- the sum of the entries at the places of the n low bits that are 1
unfoldable pub linear : List ℕ → ℕ → ℕ → ℕ
linear columns zero x = 0
linear columns (suc n) x = bit_xor (linear columns n x) (bit_at x n * get_or columns n 0)

pub linear-xor : (columns : List ℕ) (n x y : ℕ) → linear columns n (bit_xor x y) ≡ bit_xor (linear columns n x) (linear columns n y)
unfolding linear
linear-xor columns zero x y = refl
linear-xor columns (suc n) x y =
    let c = get_or columns n 0 in
    let before = linear-xor columns n x y in
    let last : bit_at (bit_xor x y) n * c ≡ bit_xor (bit_at x n * c) (bit_at y n * c) =
    ap (λ b. b * c) (bit_at_xor x y n) ∙ xor_times (bit_at x n) (bit_at y n) c (bit_at-lt x n) (bit_at-lt y n) in
    rw (before, last) (xor_exchange (linear columns n x) (linear columns n y) (bit_at x n * c) (bit_at y n * c))
