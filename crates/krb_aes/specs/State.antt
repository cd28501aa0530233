-- The state of AES and its transformations (FIPS 197, sections 3.4, 5.1 and 5.3). The state has
-- four rows and four columns of bytes, and is the list of its 16 bytes, column by column.
use Rattle.std.specs.Prelude.{ℕ, ◌+◌, ◌-◌, ◌*◌, ◌%◌, List, [], ◌∷◌, slice_index, bit_xor}
use Rattle.krb_aes.specs.Field.{product}
use Rattle.krb_aes.specs.SBox.{s_box, inv_s_box}

-- s[r, c], the byte at row r and column c (3.4)
abbrev pub at : List ℕ → ℕ → ℕ → ℕ
at s r c = slice_index s (r + 4 * c)

-- the state with the byte f r c at row r and column c
abbrev pub state_of : (ℕ → ℕ → ℕ) → List ℕ
state_of f =
    f 0 0 ∷ f 1 0 ∷ f 2 0 ∷ f 3 0 ∷ f 0 1 ∷ f 1 1 ∷ f 2 1 ∷ f 3 1 ∷
    f 0 2 ∷ f 1 2 ∷ f 2 2 ∷ f 3 2 ∷ f 0 3 ∷ f 1 3 ∷ f 2 3 ∷ f 3 3 ∷ []

-- SubBytes (5.1.1) and InvSubBytes (5.3.2)
unfoldable pub sub_bytes : List ℕ → List ℕ
sub_bytes s = state_of (λ r c. s_box (at s r c))

unfoldable pub inv_sub_bytes : List ℕ → List ℕ
inv_sub_bytes s = state_of (λ r c. inv_s_box (at s r c))

-- ShiftRows rotates row r left by r (5.1.2); InvShiftRows rotates it right by r (5.3.1)
unfoldable pub shift_rows : List ℕ → List ℕ
shift_rows s = state_of (λ r c. at s r ((c + r) % 4))

unfoldable pub inv_shift_rows : List ℕ → List ℕ
inv_shift_rows s = state_of (λ r c. at s r ((c + 4 - r) % 4))

-- the entry at row r and column k of the matrix whose row r is the given first row rotated right by
-- r
abbrev pub circulant : List ℕ → ℕ → ℕ → ℕ
circulant first r k = slice_index first ((k + 4 - r) % 4)

-- row r of a matrix times a column of four bytes, over the field of the bytes
abbrev pub row_times_column : (ℕ → ℕ → ℕ) → ℕ → (ℕ → ℕ) → ℕ
row_times_column m r column =
    bit_xor (bit_xor (bit_xor (product (m r 0) (column 0)) (product (m r 1) (column 1)))
    (product (m r 2) (column 2))) (product (m r 3) (column 3))

-- the matrix of MixColumns (5.1.3), and that of InvMixColumns (5.3.3)
abbrev pub mix : ℕ → ℕ → ℕ
mix = circulant (0x02 ∷ 0x03 ∷ 0x01 ∷ 0x01 ∷ [])

abbrev pub inv_mix : ℕ → ℕ → ℕ
inv_mix = circulant (0x0e ∷ 0x0b ∷ 0x0d ∷ 0x09 ∷ [])

-- MixColumns (5.1.3) and InvMixColumns (5.3.3): the matrix times each column
unfoldable pub mix_columns : List ℕ → List ℕ
mix_columns s = state_of (λ r c. row_times_column mix r (λ k. at s k c))

unfoldable pub inv_mix_columns : List ℕ → List ℕ
inv_mix_columns s = state_of (λ r c. row_times_column inv_mix r (λ k. at s k c))

-- AddRoundKey, which is its own inverse (5.1.4, 5.3.4)
unfoldable pub add_round_key : List ℕ → List ℕ → List ℕ
add_round_key s key = state_of (λ r c. bit_xor (at s r c) (at key r c))
