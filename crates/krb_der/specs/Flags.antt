-- 32 flags as a number. Bit 0 is the most significant (X.690, section 8.6; RFC 4120, section
-- 5.2.8).
use Rattle.std.specs.Prelude.{ℕ, ◌-◌, ◌/◌, ◌%◌, ◌^◌, ◌==◌, ◌&&◌, Bool, IsTrue, nat_lt}

-- what bit n weighs in the number: bit 0 weighs 2^31, bit 31 weighs 1
abbrev pub weight : ℕ → ℕ
weight n = 2 ^ (31 - n)

-- whether bit n is set; there is none from 32 on
abbrev pub has_bit : ℕ → ℕ → Bool
has_bit flags n = nat_lt n 32 && (flags / weight n % 2 == 1)

abbrev pub HasBit : ℕ → ℕ → Type 0
HasBit flags n = IsTrue (has_bit flags n)
