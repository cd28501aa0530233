-- Products of a byte by the entries of the two matrices, from doublings (FIPS 197, section 4.2).
use Rattle.std.proofs.Common.{◌≡◌, ℕ, ◌<◌, refl, bit_xor}
use Rattle.krb_aes.specs.Field.{carryless, remainder, product}
use Rattle.krb_aes.proofs.ByteTests.{same_below}

abbrev pub double : ℕ → ℕ
double x = product 0x02 x

pub product_by_01 : (x : ℕ) → x < 256 → product 0x01 x ≡ x
unfolding carryless remainder product
product_by_01 = same_below (product 0x01) (λ x. x) 256 refl

pub product_by_00 : (x : ℕ) → x < 256 → product 0x00 x ≡ 0
unfolding carryless remainder product
product_by_00 = same_below (product 0x00) (λ _. 0) 256 refl

pub product_by_05 : (x : ℕ) → x < 256 → product 0x05 x ≡ bit_xor x (product 0x04 x)
unfolding carryless remainder product
product_by_05 = same_below (product 0x05) (λ x. bit_xor x (product 0x04 x)) 256 refl

pub product_by_03 : (x : ℕ) → x < 256 → product 0x03 x ≡ bit_xor (double x) x
unfolding carryless remainder product
product_by_03 = same_below (product 0x03) (λ x. bit_xor (double x) x) 256 refl

pub product_by_09 : (x : ℕ) → x < 256 → product 0x09 x ≡ bit_xor (double (double (double x))) x
unfolding carryless remainder product
product_by_09 = same_below (product 0x09) (λ x. bit_xor (double (double (double x))) x) 256 refl

pub product_by_0b : (x : ℕ) → x < 256 →
    product 0x0b x ≡ bit_xor (bit_xor (double (double (double x))) (double x)) x
unfolding carryless remainder product
product_by_0b =
    same_below (product 0x0b) (λ x. bit_xor (bit_xor (double (double (double x))) (double x)) x) 256 refl

pub product_by_0d : (x : ℕ) → x < 256 →
    product 0x0d x ≡ bit_xor (bit_xor (double (double (double x))) (double (double x))) x
unfolding carryless remainder product
product_by_0d =
    same_below (product 0x0d) (λ x. bit_xor (bit_xor (double (double (double x))) (double (double x))) x)
    256 refl

pub product_by_0e : (x : ℕ) → x < 256 →
    product 0x0e x ≡ bit_xor (bit_xor (double (double (double x))) (double (double x))) (double x)
unfolding carryless remainder product
product_by_0e =
    same_below (product 0x0e)
    (λ x. bit_xor (bit_xor (double (double (double x))) (double (double x))) (double x)) 256 refl
