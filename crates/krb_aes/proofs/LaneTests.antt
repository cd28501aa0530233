-- What the tables of 16 bytes give for each byte.
use Rattle.std.proofs.Common.{◌≡◌, ℕ, ◌<◌, List, [], ◌∷◌, refl, bit_xor}
use Rattle.krb_aes.specs.Field.{carryless, remainder, product, inverse, number_with}
use Rattle.krb_aes.specs.SBox.{affine, s_box, inv_s_box}
use Rattle.krb_aes.specs.Inner.Tower.{by_nibbles, read_from, substituted_of, tower_form, inv_form, inv_by_09, inv_by_0b, inv_by_0d, inv_by_0e}
use Rattle.krb_aes.specs.declared.tower.TheConstants.{ONCE_IO, ONCE_JO, THRICE_IO, THRICE_JO, INV_SUB_IO, INV_SUB_JO, INV_04_IO, INV_04_JO, INV_01_IO, INV_01_JO, INV_THRICE_LOW, INV_THRICE_HIGH, TIMES_0E_LOW, TIMES_0E_HIGH, TIMES_0B_LOW, TIMES_0B_HIGH, TIMES_0D_LOW, TIMES_0D_HIGH, TIMES_09_LOW, TIMES_09_HIGH}
use Rattle.krb_aes.proofs.ByteTests.{same_below}
use Rattle.krb_aes.proofs.FieldLaws.{linear}

-- ---- the form that encryption keeps

-- the bits of a byte change these bits of its form, from the lowest on
abbrev pub tower_columns : List ℕ
tower_columns = 0x01 ∷ 0x1c ∷ 0x2d ∷ 0x27 ∷ 0x86 ∷ 0xfd ∷ 0x8e ∷ 0x77 ∷ []

abbrev pub tower_part : ℕ → ℕ
tower_part = linear tower_columns 8

pub tower_form_is : (x : ℕ) → x < 256 → tower_form x ≡ tower_part x
unfolding linear tower_form
tower_form_is = same_below tower_form tower_part 256 refl

pub sub_is : (x : ℕ) → x < 256 → substituted_of (tower_form x) ≡ s_box x
unfolding carryless remainder product inverse number_with affine s_box tower_form
sub_is = same_below (λ x. substituted_of (tower_form x)) s_box 256 refl

pub once_is : (x : ℕ) → x < 256 → read_from ONCE_IO ONCE_JO (tower_form x) ≡ tower_part (bit_xor (s_box x) 0x63)
unfolding carryless remainder product inverse number_with affine s_box linear tower_form
once_is =
    same_below (λ x. read_from ONCE_IO ONCE_JO (tower_form x)) (λ x. tower_part (bit_xor (s_box x) 0x63)) 256 refl

pub thrice_is : (x : ℕ) → x < 256 → read_from THRICE_IO THRICE_JO (tower_form x) ≡ tower_part (product 0x03 (bit_xor (s_box x) 0x63))
unfolding carryless remainder product inverse number_with affine s_box linear tower_form
thrice_is =
    same_below (λ x. read_from THRICE_IO THRICE_JO (tower_form x)) (λ x. tower_part (product 0x03 (bit_xor (s_box x) 0x63))) 256 refl

-- ---- the form that decryption keeps

-- the bits of a byte change these bits of its form, from the lowest on
abbrev pub inv_columns : List ℕ
inv_columns = 0xb5 ∷ 0xdc ∷ 0xdb ∷ 0x14 ∷ 0xa7 ∷ 0xa8 ∷ 0xed ∷ 0xd1 ∷ []

-- the form of a byte but for the constant
abbrev pub inv_part : ℕ → ℕ
inv_part = linear inv_columns 8

pub inv_form_is : (x : ℕ) → x < 256 → inv_form x ≡ bit_xor (inv_part x) 0x2c
unfolding linear inv_form
inv_form_is = same_below inv_form (λ x. bit_xor (inv_part x) 0x2c) 256 refl

pub inv_sub_is : (x : ℕ) → x < 256 → read_from INV_SUB_IO INV_SUB_JO (inv_form x) ≡ inv_s_box x
unfolding carryless remainder product inverse number_with affine s_box inv_s_box inv_form
inv_sub_is = same_below (λ x. read_from INV_SUB_IO INV_SUB_JO (inv_form x)) inv_s_box 256 refl

pub inv_01_is : (x : ℕ) → x < 256 → read_from INV_01_IO INV_01_JO (inv_form x) ≡ inv_part (inv_s_box x)
unfolding carryless remainder product inverse number_with affine s_box inv_s_box linear inv_form
inv_01_is =
    same_below (λ x. read_from INV_01_IO INV_01_JO (inv_form x)) (λ x. inv_part (inv_s_box x)) 256 refl

pub inv_04_is : (x : ℕ) → x < 256 → read_from INV_04_IO INV_04_JO (inv_form x) ≡ inv_part (product 0x04 (inv_s_box x))
unfolding carryless remainder product inverse number_with affine s_box inv_s_box linear inv_form
inv_04_is =
    same_below (λ x. read_from INV_04_IO INV_04_JO (inv_form x)) (λ x. inv_part (product 0x04 (inv_s_box x))) 256 refl

pub inv_thrice_is : (x : ℕ) → x < 256 → by_nibbles INV_THRICE_LOW INV_THRICE_HIGH (inv_part x) ≡ inv_part (product 0x03 x)
unfolding carryless remainder product linear
inv_thrice_is =
    same_below (λ x. by_nibbles INV_THRICE_LOW INV_THRICE_HIGH (inv_part x)) (λ x. inv_part (product 0x03 x)) 256 refl

pub inv_0e_is : (x : ℕ) → x < 256 → inv_by_0e (inv_form x) ≡ inv_part (product 0x0e (inv_s_box x))
unfolding carryless remainder product inverse number_with affine s_box inv_s_box linear inv_form
inv_0e_is =
    same_below (λ x. inv_by_0e (inv_form x)) (λ x. inv_part (product 0x0e (inv_s_box x))) 256 refl

pub inv_0b_is : (x : ℕ) → x < 256 → inv_by_0b (inv_form x) ≡ inv_part (product 0x0b (inv_s_box x))
unfolding carryless remainder product inverse number_with affine s_box inv_s_box linear inv_form
inv_0b_is =
    same_below (λ x. inv_by_0b (inv_form x)) (λ x. inv_part (product 0x0b (inv_s_box x))) 256 refl

pub inv_0d_is : (x : ℕ) → x < 256 → inv_by_0d (inv_form x) ≡ inv_part (product 0x0d (inv_s_box x))
unfolding carryless remainder product inverse number_with affine s_box inv_s_box linear inv_form
inv_0d_is =
    same_below (λ x. inv_by_0d (inv_form x)) (λ x. inv_part (product 0x0d (inv_s_box x))) 256 refl

pub inv_09_is : (x : ℕ) → x < 256 → inv_by_09 (inv_form x) ≡ inv_part (product 0x09 (inv_s_box x))
unfolding carryless remainder product inverse number_with affine s_box inv_s_box linear inv_form
inv_09_is =
    same_below (λ x. inv_by_09 (inv_form x)) (λ x. inv_part (product 0x09 (inv_s_box x))) 256 refl

-- ---- products

pub times_0e_is : (x : ℕ) → x < 256 → by_nibbles TIMES_0E_LOW TIMES_0E_HIGH x ≡ product 0x0e x
unfolding carryless remainder product
times_0e_is = same_below (by_nibbles TIMES_0E_LOW TIMES_0E_HIGH) (product 0x0e) 256 refl

pub times_0b_is : (x : ℕ) → x < 256 → by_nibbles TIMES_0B_LOW TIMES_0B_HIGH x ≡ product 0x0b x
unfolding carryless remainder product
times_0b_is = same_below (by_nibbles TIMES_0B_LOW TIMES_0B_HIGH) (product 0x0b) 256 refl

pub times_0d_is : (x : ℕ) → x < 256 → by_nibbles TIMES_0D_LOW TIMES_0D_HIGH x ≡ product 0x0d x
unfolding carryless remainder product
times_0d_is = same_below (by_nibbles TIMES_0D_LOW TIMES_0D_HIGH) (product 0x0d) 256 refl

pub times_09_is : (x : ℕ) → x < 256 → by_nibbles TIMES_09_LOW TIMES_09_HIGH x ≡ product 0x09 x
unfolding carryless remainder product
times_09_is = same_below (by_nibbles TIMES_09_LOW TIMES_09_HIGH) (product 0x09) 256 refl
