-- FIPS 197's example values, computed from the definitions alone.
use Rattle.std.proofs.Common.{◌≡◌, ℕ, List, [], ◌∷◌, refl}
use Rattle.krb_aes.specs.Field.{carryless, remainder, product, inverse, number_with}
use Rattle.krb_aes.specs.SBox.{affine, s_box, inv_s_box}
use Rattle.krb_aes.specs.State.{sub_bytes, inv_sub_bytes, shift_rows, inv_shift_rows, mix_columns, inv_mix_columns, add_round_key}
use Rattle.krb_aes.specs.KeyExpansion.{x_to_the, first_words, key_expansion}
use Rattle.krb_aes.specs.Cipher.{rounds, cipher, inv_rounds, inv_cipher}

product_example : product 0x57 0x83 ≡ 0xc1
unfolding carryless remainder product
product_example = refl

-- section 5.1.1
s_box_example : s_box 0x53 ≡ 0xed
unfolding carryless remainder product inverse number_with affine s_box
s_box_example = refl

-- appendix C.1
plain : List ℕ
plain = 0x00 ∷ 0x11 ∷ 0x22 ∷ 0x33 ∷ 0x44 ∷ 0x55 ∷ 0x66 ∷ 0x77 ∷ 0x88 ∷ 0x99 ∷ 0xaa ∷ 0xbb ∷ 0xcc ∷ 0xdd ∷ 0xee ∷ 0xff ∷ []

key_128 : List ℕ
key_128 = 0x00 ∷ 0x01 ∷ 0x02 ∷ 0x03 ∷ 0x04 ∷ 0x05 ∷ 0x06 ∷ 0x07 ∷ 0x08 ∷ 0x09 ∷ 0x0a ∷ 0x0b ∷ 0x0c ∷ 0x0d ∷ 0x0e ∷ 0x0f ∷ []

cipher_128 : List ℕ
cipher_128 = 0x69 ∷ 0xc4 ∷ 0xe0 ∷ 0xd8 ∷ 0x6a ∷ 0x7b ∷ 0x04 ∷ 0x30 ∷ 0xd8 ∷ 0xcd ∷ 0xb7 ∷ 0x80 ∷ 0x70 ∷ 0xb4 ∷ 0xc5 ∷ 0x5a ∷ []

cipher_example_128 : cipher key_128 plain ≡ cipher_128
unfolding plain key_128 cipher_128 carryless remainder product inverse number_with affine s_box sub_bytes shift_rows mix_columns add_round_key x_to_the first_words key_expansion rounds cipher
cipher_example_128 = refl

inv_cipher_example_128 : inv_cipher key_128 cipher_128 ≡ plain
unfolding plain key_128 cipher_128 carryless remainder product inverse number_with affine s_box inv_s_box inv_sub_bytes inv_shift_rows inv_mix_columns add_round_key x_to_the first_words key_expansion inv_rounds inv_cipher
inv_cipher_example_128 = refl

-- appendix C.3
key_256 : List ℕ
key_256 =
    0x00 ∷ 0x01 ∷ 0x02 ∷ 0x03 ∷ 0x04 ∷ 0x05 ∷ 0x06 ∷ 0x07 ∷ 0x08 ∷ 0x09 ∷ 0x0a ∷ 0x0b ∷ 0x0c ∷ 0x0d ∷ 0x0e ∷ 0x0f ∷
    0x10 ∷ 0x11 ∷ 0x12 ∷ 0x13 ∷ 0x14 ∷ 0x15 ∷ 0x16 ∷ 0x17 ∷ 0x18 ∷ 0x19 ∷ 0x1a ∷ 0x1b ∷ 0x1c ∷ 0x1d ∷ 0x1e ∷ 0x1f ∷ []

cipher_256 : List ℕ
cipher_256 = 0x8e ∷ 0xa2 ∷ 0xb7 ∷ 0xca ∷ 0x51 ∷ 0x67 ∷ 0x45 ∷ 0xbf ∷ 0xea ∷ 0xfc ∷ 0x49 ∷ 0x90 ∷ 0x4b ∷ 0x49 ∷ 0x60 ∷ 0x89 ∷ []

cipher_example_256 : cipher key_256 plain ≡ cipher_256
unfolding plain key_256 cipher_256 carryless remainder product inverse number_with affine s_box sub_bytes shift_rows mix_columns add_round_key x_to_the first_words key_expansion rounds cipher
cipher_example_256 = refl

inv_cipher_example_256 : inv_cipher key_256 cipher_256 ≡ plain
unfolding plain key_256 cipher_256 carryless remainder product inverse number_with affine s_box inv_s_box inv_sub_bytes inv_shift_rows inv_mix_columns add_round_key x_to_the first_words key_expansion inv_rounds inv_cipher
inv_cipher_example_256 = refl
