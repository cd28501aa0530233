-- The substitution table of AES, and its inverse (FIPS 197, sections 5.1.1 and 5.3.2).
use Rattle.std.specs.Prelude.{ℕ, zero, suc, ◌+◌, ◌*◌, ◌%◌, ◌^◌, ◌==◌}
use Rattle.std.specs.Int.{bit_at}
use Rattle.krb_aes.specs.Field.{inverse, number_with}

-- bit i of the affine transformation of the byte b, with the constant byte c = 63 (5.1.1)
abbrev pub affine_bit : ℕ → ℕ → ℕ
affine_bit b i =
    (bit_at b i + bit_at b ((i + 4) % 8) + bit_at b ((i + 5) % 8) + bit_at b ((i + 6) % 8)
    + bit_at b ((i + 7) % 8) + bit_at 0x63 i) % 2

-- the number with these n low bits
unfoldable pub affine : ℕ → ℕ → ℕ
affine zero b = 0
affine (suc n) b = affine n b + affine_bit b n * 2 ^ n

-- SBox: the multiplicative inverse, then the affine transformation (5.1.1)
unfoldable pub s_box : ℕ → ℕ
s_box a = affine 8 (inverse a)

-- InvSBox: the byte whose SBox value it is (5.3.2)
unfoldable pub inv_s_box : ℕ → ℕ
inv_s_box b = number_with (λ a. s_box a == b) 256
