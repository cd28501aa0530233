-- The field of the bytes (FIPS 197, section 4). A byte is a polynomial of degree below 8 over the
-- field of two elements: bit i of the number is the coefficient of x^i. Sums are `bit_xor` (4.1).
use Rattle.std.specs.Prelude.{ℕ, zero, suc, ◌+◌, ◌*◌, ◌^◌, ◌==◌, Bool, true, false, bit_xor}
use Rattle.std.specs.Int.{bit_at}

-- the product of two polynomials, without carries, using the n low coefficients of the first
unfoldable pub carryless : ℕ → ℕ → ℕ → ℕ
carryless zero a b = 0
carryless (suc n) a b = bit_xor (carryless n a b) (bit_at a n * (b * 2 ^ n))

-- the remainder of p modulo m(x) = x^8 + x^4 + x^3 + x + 1, if p has degree below 8 + n (4.2)
unfoldable pub remainder : ℕ → ℕ → ℕ
remainder zero p = p
remainder (suc n) p = remainder n (bit_xor p (bit_at p (8 + n) * (0x11b * 2 ^ n)))

-- the product of two bytes: the product of their polynomials modulo m(x) (4.2)
unfoldable pub product : ℕ → ℕ → ℕ
product a b = remainder 7 (carryless 8 a b)

-- the number below n that passes a test, or 0 if there is none
unfoldable pub number_with : (ℕ → Bool) → ℕ → ℕ
number_with p zero = 0
number_with p (suc n) = elim (p n) [ true ↦ n | false ↦ number_with p n ]

-- the multiplicative inverse of a byte: the byte whose product with it is 1; for 0 it is 0 (4.4)
unfoldable pub inverse : ℕ → ℕ
inverse a = number_with (λ b. product a b == 1) 256
