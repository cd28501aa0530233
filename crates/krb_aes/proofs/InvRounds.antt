-- The rounds of the inverse cipher on 16 lanes, on blocks in the form that decryption keeps.
use Rattle.std.proofs.Common.{◌≡◌, ℕ, ◌+◌, ◌-◌, ◌*◌, ◌%◌, ◌<◌, List, length, map, refl, sym, ap, ◌∙◌, subst, bit_xor}
use Rattle.std.specs.Simd.Lanes.{zip2, chunk}
use Rattle.std.specs.Int.Bits.{xor_assoc}
use Rattle.std.proofs.lemmas.Nat.{xor_of_8}
use Rattle.krb_aes.specs.Field.{product}
use Rattle.krb_aes.specs.SBox.{inv_s_box}
use Rattle.krb_aes.specs.State.{at, state_of, row_times_column, inv_mix, inv_sub_bytes, inv_shift_rows, inv_mix_columns, add_round_key}
use Rattle.krb_aes.specs.Cipher.{IsBlock}
use Rattle.krb_aes.specs.Inner.Schedule.{kept, inv_form_of_key}
use Rattle.krb_aes.specs.Inner.Tower.{read_from, inv_form, inv_by_09, inv_by_0b, inv_by_0d, inv_by_0e}
use Rattle.krb_aes.specs.declared.tower.TheConstants.{INV_SUB_IO, INV_SUB_JO}
use Rattle.krb_aes.specs.declared.lanes.TheConstants.{NEXT_ROWS, OPPOSITE_ROWS, PREVIOUS_ROWS}
use Rattle.krb_aes.proofs.Bytes.{AreBytes, place, row_byte, inv_s_box_byte, state_of-at, same_state}
use Rattle.krb_aes.proofs.FieldLaws.{linear-xor}
use Rattle.krb_aes.proofs.StateLaws.{inv_mix_small, inv_mix_columns-added}
use Rattle.krb_aes.proofs.LaneTests.{inv_columns, inv_part, inv_form_is, inv_sub_is, inv_0e_is, inv_0b_is, inv_0d_is, inv_09_is}
use Rattle.krb_aes.proofs.LaneRounds.{of_block, inv_mixed_lane_is, IsBlock-kept, by_row, turned_lanes, shifted_twice, picked, at_16}

-- ---- one lane

inv_part-sum : (a b c d : ℕ) →
    inv_part (bit_xor (bit_xor a b) (bit_xor c d)) ≡ bit_xor (bit_xor (inv_part a) (inv_part b)) (bit_xor (inv_part c) (inv_part d))
inv_part-sum a b c d =
    linear-xor inv_columns 8 (bit_xor a b) (bit_xor c d)
    ∙ (λ i. bit_xor (linear-xor inv_columns 8 a b i) (linear-xor inv_columns 8 c d i))

inv_form-xor : (a b : ℕ) → a < 256 → b < 256 → inv_form (bit_xor a b) ≡ bit_xor (inv_part a) (inv_form b)
inv_form-xor a b a_byte b_byte =
    inv_form_is (bit_xor a b) (xor_of_8 a b a_byte b_byte)
    ∙ ap (λ x. bit_xor x 0x2c) (linear-xor inv_columns 8 a b)
    ∙ xor_assoc (inv_part a) (inv_part b) 0x2c
    ∙ ap (bit_xor (inv_part a)) (sym (inv_form_is b b_byte))

-- the lane at row r, of a column y without InvMixColumns and of the key's byte
abbrev inv_round_lane : ℕ → (ℕ → ℕ) → ℕ → ℕ
inv_round_lane r y key =
    bit_xor (bit_xor (inv_part (product 0x0e (y r))) (inv_part (product 0x0b (y ((r + 1) % 4)))))
    (bit_xor (bit_xor (inv_part (product 0x0d (y ((r + 2) % 4)))) (inv_part (product 0x09 (y ((r + 3) % 4))))) (inv_form key))

inv_round_lane_is : (r : ℕ) (y : ℕ → ℕ) (key : ℕ) → r < 4 → ((j : ℕ) → y j < 256) → key < 256 →
    inv_round_lane r y key ≡ inv_form (bit_xor (row_times_column inv_mix r y) key)
inv_round_lane_is r y key small bytes key_byte =
    let a = product 0x0e (y r) in
    let b = product 0x0b (y ((r + 1) % 4)) in
    let c = product 0x0d (y ((r + 2) % 4)) in
    let d = product 0x09 (y ((r + 3) % 4)) in
    sym (xor_assoc (bit_xor (inv_part a) (inv_part b)) (bit_xor (inv_part c) (inv_part d)) (inv_form key))
    ∙ ap (λ x. bit_xor x (inv_form key)) (sym (inv_part-sum a b c d) ∙ ap inv_part (inv_mixed_lane_is r y small))
    ∙ sym (inv_form-xor (row_times_column inv_mix r y) key (row_byte inv_mix r y (inv_mix_small r) bytes) key_byte)

-- ---- all lanes

abbrev inv_round_of : ℕ → List ℕ → List ℕ → List ℕ → List ℕ → List ℕ → List ℕ
inv_round_of m e b d n key =
    zip2 bit_xor (zip2 bit_xor e (turned_lanes NEXT_ROWS m b))
    (zip2 bit_xor (zip2 bit_xor (turned_lanes OPPOSITE_ROWS (m % 2) d) (turned_lanes PREVIOUS_ROWS m n)) (chunk 0 16 key))

abbrev product_lanes : ℕ → List ℕ → List ℕ
product_lanes c s = map (λ x. inv_part (product c (inv_s_box x))) s

abbrev products_of : ℕ → List ℕ → List ℕ → List ℕ
products_of m s key =
    inv_round_of m (product_lanes 0x0e s) (product_lanes 0x0b s) (product_lanes 0x0d s) (product_lanes 0x09 s) key

-- the column from which a lane of the next block comes
abbrev pub inv_column_of : List ℕ → ℕ → ℕ → ℕ
inv_column_of block c j = inv_s_box (at block j ((c + 4 - j) % 4))

-- the column of the lane at row r and column c
abbrev pub kept_column : ℕ → ℕ → ℕ → ℕ
kept_column n r c = (c + 3 * n * r) % 4

inv_round_block : (m : ℕ) (block round_key : List ℕ) → m < 4 → IsBlock block → AreBytes round_key →
    products_of m (kept ((m + 1) % 4) block) (inv_form_of_key m round_key)
    ≡ map inv_form (kept m (add_round_key (inv_mix_columns (inv_sub_bytes (inv_shift_rows block))) (inv_mix_columns round_key)))
unfolding add_round_key inv_mix_columns inv_shift_rows inv_sub_bytes kept
inv_round_block m block round_key small is key_is =
    let P : List ℕ → Type 0 = λ t.
    products_of m (kept ((m + 1) % 4) t) (inv_form_of_key m round_key)
    ≡ map inv_form (kept m (add_round_key (inv_mix_columns (inv_sub_bytes (inv_shift_rows t))) (inv_mix_columns round_key))) in
    let s = state_of (at block) in
    let key : ℕ → ℕ → ℕ = λ r c. row_times_column inv_mix r (λ k. at round_key k c) in
    let lanes : ℕ → ℕ → ℕ → ℕ = λ q r c. inv_round_lane r (inv_column_of block (kept_column q r c)) (key r (kept_column q r c)) in
    let bytes_of : ℕ → ℕ → ℕ → ℕ = λ q r c.
    inv_form (bit_xor (row_times_column inv_mix r (inv_column_of block (kept_column q r c))) (key r (kept_column q r c))) in
    subst P (state_of-at block is.size)
    (by_row (λ q. products_of q (kept ((q + 1) % 4) s) (inv_form_of_key q round_key) ≡ state_of (lanes q)) refl refl refl refl m small
    ∙ same_state (lanes m) (bytes_of m)
    (λ r c row. inv_round_lane_is r (inv_column_of block (kept_column m r c)) (key r (kept_column m r c)) row
    (λ j. inv_s_box_byte _ (place block (j + 4 * ((kept_column m r c + 4 - j) % 4)) is.bytes))
    (row_byte inv_mix r (λ k. at round_key k (kept_column m r c)) (inv_mix_small r) (λ k. place round_key (k + 4 * kept_column m r c) key_is)))
    ∙ by_row
    (λ q. state_of (bytes_of q)
    ≡ map inv_form (kept q (add_round_key (inv_mix_columns (inv_sub_bytes (inv_shift_rows s))) (inv_mix_columns round_key))))
    refl refl refl refl m small)

pub inv_round_lanes : (m : ℕ) (form key e b d n block round_key : List ℕ) → m < 4 → IsBlock block → AreBytes round_key →
    form ≡ map inv_form (kept ((m + 1) % 4) block) → key ≡ inv_form_of_key m round_key →
    e ≡ map inv_by_0e form → b ≡ map inv_by_0b form →
    d ≡ map inv_by_0d form → n ≡ map inv_by_09 form →
    inv_round_of m e b d n key
    ≡ map inv_form (kept m (inv_mix_columns (add_round_key (inv_sub_bytes (inv_shift_rows block)) round_key)))
inv_round_lanes m form key e b d n block round_key small is key_is form_is key_form e_is b_is d_is n_is =
    let kept_is = IsBlock-kept ((m + 1) % 4) block is in
    let e_lanes = of_block inv_form inv_by_0e (λ x. inv_part (product 0x0e (inv_s_box x))) inv_0e_is _ form e kept_is form_is e_is in
    let b_lanes = of_block inv_form inv_by_0b (λ x. inv_part (product 0x0b (inv_s_box x))) inv_0b_is _ form b kept_is form_is b_is in
    let d_lanes = of_block inv_form inv_by_0d (λ x. inv_part (product 0x0d (inv_s_box x))) inv_0d_is _ form d kept_is form_is d_is in
    let n_lanes = of_block inv_form inv_by_09 (λ x. inv_part (product 0x09 (inv_s_box x))) inv_09_is _ form n kept_is form_is n_is in
    (λ i. inv_round_of m (e_lanes i) (b_lanes i) (d_lanes i) (n_lanes i) (key_form i))
    ∙ inv_round_block m block round_key small is key_is
    ∙ ap (λ s. map inv_form (kept m s)) (sym (inv_mix_columns-added (inv_sub_bytes (inv_shift_rows block)) round_key))

pub inv_last_round_lanes : (form key once block : List ℕ) → IsBlock block → length key ≡ 16 → form ≡ map inv_form (kept 3 block) →
    once ≡ map (read_from INV_SUB_IO INV_SUB_JO) form →
    zip2 bit_xor (picked once shifted_twice) (chunk 0 16 key) ≡ add_round_key (inv_sub_bytes (inv_shift_rows block)) key
unfolding add_round_key inv_shift_rows inv_sub_bytes kept
inv_last_round_lanes form key once block is size form_is once_is =
    let P : List ℕ → List ℕ → Type 0 = λ t k.
    zip2 bit_xor (picked (map inv_s_box (kept 3 t)) shifted_twice) (chunk 0 16 k) ≡ add_round_key (inv_sub_bytes (inv_shift_rows t)) k in
    let lanes = of_block inv_form (read_from INV_SUB_IO INV_SUB_JO) inv_s_box inv_sub_is _ form once (IsBlock-kept 3 block is) form_is once_is in
    (λ i. zip2 bit_xor (picked (lanes i) shifted_twice) (chunk 0 16 key)) ∙ at_16 P block key is.size size refl
