-- The rounds of the cipher on 16 lanes, on blocks in the form that encryption keeps.
use Rattle.std.proofs.Common.{◌≡◌, ℕ, ◌+◌, ◌*◌, ◌%◌, ◌<◌, List, [], ◌∷◌, length, map, refl, sym, ap, ◌∙◌, subst, lit<, bit_xor}
use Rattle.std.specs.Prelude.{slice_index}
use Rattle.std.specs.Simd.Lanes.{zip2, chunk}
use Rattle.std.proofs.lemmas.Nat.{xor_of_8}
use Rattle.krb_aes.specs.Field.{carryless, remainder, product}
use Rattle.krb_aes.specs.SBox.{s_box}
use Rattle.krb_aes.specs.State.{at, state_of, row_times_column, mix, sub_bytes, shift_rows, mix_columns, add_round_key}
use Rattle.krb_aes.specs.Cipher.{IsBlock}
use Rattle.krb_aes.specs.Inner.Schedule.{kept, three_rows, form_of_key}
use Rattle.krb_aes.specs.Inner.Tower.{read_from, substituted_of, tower_form}
use Rattle.krb_aes.specs.declared.tower.TheConstants.{ONCE_IO, ONCE_JO, THRICE_IO, THRICE_JO}
use Rattle.krb_aes.specs.declared.lanes.TheConstants.{NEXT_ROWS, OPPOSITE_ROWS}
use Rattle.krb_aes.proofs.ByteTests.{same_below}
use Rattle.krb_aes.proofs.Bytes.{AreBytes, place, row_byte, s_box_byte, state_of-at, same_state}
use Rattle.krb_aes.proofs.ProductRules.{product_by_03}
use Rattle.krb_aes.proofs.Sums.{term, plus, value, same_sum, linear_sum}
use Rattle.krb_aes.proofs.MixLaws.{row_times_column-xor}
use Rattle.krb_aes.proofs.StateLaws.{mix_small}
use Rattle.krb_aes.proofs.LaneTests.{tower_columns, tower_part, tower_form_is, sub_is, once_is, thrice_is}
use Rattle.krb_aes.proofs.LaneRounds.{of_block, mixed_lane, turned_lanes, mixed_lane_is, IsBlock-kept, by_row, shifted_twice, picked, at_16}

-- ---- one lane

-- MixColumns leaves a column of the constant as it is
constant_stays : (r : ℕ) → r < 4 → row_times_column mix r (λ _. 0x63) ≡ 0x63
unfolding carryless remainder product
constant_stays = same_below (λ r. row_times_column mix r (λ _. 0x63)) (λ _. 0x63) 4 refl

constants_vanish : (r : ℕ) (y : ℕ → ℕ) (key : ℕ) → r < 4 →
    bit_xor (row_times_column mix r (λ j. bit_xor (y j) 0x63)) (bit_xor 0x63 key) ≡ bit_xor (row_times_column mix r y) key
constants_vanish r y key small =
    let mixed = row_times_column mix r y in
    ap (λ x. bit_xor x (bit_xor 0x63 key)) (row_times_column-xor mix r y (λ _. 0x63) ∙ ap (bit_xor mixed) (constant_stays r small))
    ∙ same_sum (slice_index (mixed ∷ 0x63 ∷ key ∷ [])) (plus (plus (term 0) (term 1)) (plus (term 1) (term 2))) (plus (term 0) (term 2)) refl

-- the lane at row r, of the products of its column and of the bytes with which the key is added
abbrev lane_of : (ℕ → ℕ) → (ℕ → ℕ) → (ℕ → ℕ) → ℕ → ℕ
lane_of once thrice key r =
    let added : ℕ → ℕ = λ j. bit_xor (once (j % 4)) (key (j % 4)) in
    let sum : ℕ → ℕ = λ j. bit_xor (thrice (j % 4)) (added (j + 2)) in
    bit_xor (sum (r + 1)) (bit_xor (added r) (sum r))

-- a byte of a column plus the next two
abbrev three : (ℕ → ℕ) → ℕ → ℕ
three k r = bit_xor (k r) (bit_xor (k ((r + 1) % 4)) (k ((r + 2) % 4)))

abbrev with_constant : (ℕ → ℕ) → ℕ → ℕ
with_constant y j = bit_xor (y j) 0x63

abbrev key_with_constant : (ℕ → ℕ) → ℕ → ℕ
key_with_constant key j = bit_xor 0x63 (key j)

-- of a column y before MixColumns and of the key's column
abbrev round_lane : (ℕ → ℕ) → (ℕ → ℕ) → ℕ → ℕ
round_lane y key =
    lane_of (λ j. tower_part (with_constant y j)) (λ j. tower_part (product 0x03 (with_constant y j)))
    (λ j. tower_form (three (key_with_constant key) j))

lane_sum : (u0 u1 u2 u3 k0 k1 k2 k3 : ℕ) → u0 < 256 → u1 < 256 → k0 < 256 → k1 < 256 → k2 < 256 → k3 < 256 →
    bit_xor (bit_xor (tower_part (product 0x03 u1)) (bit_xor (tower_part u3) (tower_form (bit_xor k3 (bit_xor k0 k1)))))
    (bit_xor (bit_xor (tower_part u0) (tower_form (bit_xor k0 (bit_xor k1 k2))))
    (bit_xor (tower_part (product 0x03 u0)) (bit_xor (tower_part u2) (tower_form (bit_xor k2 (bit_xor k3 k0))))))
    ≡ tower_part (bit_xor (bit_xor (product 0x02 u0) (bit_xor (product 0x02 u1) u1)) (bit_xor (bit_xor u2 u3) k0))
lane_sum u0 u1 u2 u3 k0 k1 k2 k3 u0_byte u1_byte k0_byte k1_byte k2_byte k3_byte =
    let byte : (a b c : ℕ) → a < 256 → b < 256 → c < 256 → bit_xor a (bit_xor b c) < 256 =
    λ a b c a_byte b_byte c_byte. xor_of_8 a _ a_byte (xor_of_8 b c b_byte c_byte) in
    let all : ℕ → ℕ = slice_index (product 0x02 u0 ∷ product 0x02 u1 ∷ u0 ∷ u1 ∷ u2 ∷ u3 ∷ k0 ∷ k1 ∷ k2 ∷ k3 ∷ []) in
    let thrice_0 = plus (term 0) (term 2) in
    let thrice_1 = plus (term 1) (term 3) in
    let key_0 = plus (term 6) (plus (term 7) (term 8)) in
    let key_2 = plus (term 8) (plus (term 9) (term 6)) in
    let key_3 = plus (term 9) (plus (term 6) (term 7)) in
    let sum = plus (plus thrice_1 (plus (term 5) key_3)) (plus (plus (term 2) key_0) (plus thrice_0 (plus (term 4) key_2))) in
    let left = plus (plus (term 0) thrice_1) (plus (plus (term 4) (term 5)) (term 6)) in
    let parts : ℕ → ℕ =
    slice_index (value all thrice_1 ∷ u3 ∷ value all key_3 ∷ u0 ∷ value all key_0 ∷ value all thrice_0 ∷ u2 ∷ value all key_2 ∷ []) in
    let sum_of_parts = plus (plus (term 0) (plus (term 1) (term 2))) (plus (plus (term 3) (term 4)) (plus (term 5) (plus (term 6) (term 7)))) in
    rw (
      product_by_03 u0 u0_byte,
      product_by_03 u1 u1_byte,
      tower_form_is _ (byte k0 k1 k2 k0_byte k1_byte k2_byte),
      tower_form_is _ (byte k2 k3 k0 k2_byte k3_byte k0_byte),
      tower_form_is _ (byte k3 k0 k1 k3_byte k0_byte k1_byte),
    ) (linear_sum tower_columns parts sum_of_parts ∙ ap tower_part (same_sum all sum left refl))

round_lane_mixed : (r : ℕ) (y key : ℕ → ℕ) → r < 4 → ((j : ℕ) → y j < 256) → ((j : ℕ) → key j < 256) →
    round_lane y key r ≡ tower_part (mixed_lane r (with_constant y) (key_with_constant key r))
round_lane_mixed r y key small bytes key_bytes =
    let u : ℕ → ℕ = with_constant y in
    let k : ℕ → ℕ = key_with_constant key in
    let u_byte : (j : ℕ) → u j < 256 = λ j. xor_of_8 (y j) 0x63 (bytes j) (lit< tt) in
    let k_byte : (j : ℕ) → k j < 256 = λ j. xor_of_8 0x63 (key j) (lit< tt) (key_bytes j) in
    let from : (i j m n : ℕ) → _ =
    λ i j m n. lane_sum (u i) (u j) (u m) (u n) (k i) (k j) (k m) (k n) (u_byte i) (u_byte j) (k_byte i) (k_byte j) (k_byte m) (k_byte n) in
    by_row (λ q. round_lane y key q ≡ tower_part (mixed_lane q u (k q))) (from 0 1 2 3) (from 1 2 3 0) (from 2 3 0 1) (from 3 0 1 2) r small

round_lane_is : (r : ℕ) (y key : ℕ → ℕ) → r < 4 → ((j : ℕ) → y j < 256) → ((j : ℕ) → key j < 256) →
    round_lane y key r ≡ tower_form (bit_xor (row_times_column mix r y) (key r))
round_lane_is r y key small bytes key_bytes =
    round_lane_mixed r y key small bytes key_bytes
    ∙ ap tower_part
    (mixed_lane_is r (with_constant y) (key_with_constant key r) small (λ j. xor_of_8 (y j) 0x63 (bytes j) (lit< tt))
    ∙ constants_vanish r y (key r) small)
    ∙ sym (tower_form_is _ (xor_of_8 _ (key r) (row_byte mix r y (mix_small r) bytes) (key_bytes r)))

-- ---- all lanes

abbrev round_of : ℕ → List ℕ → List ℕ → List ℕ → List ℕ
round_of n product thrice key_form =
    let once = zip2 bit_xor product (chunk 0 16 key_form) in
    let sum = zip2 bit_xor thrice (turned_lanes OPPOSITE_ROWS (n % 2) once) in
    zip2 bit_xor (turned_lanes NEXT_ROWS n sum) (zip2 bit_xor once sum)

abbrev once_lanes : List ℕ → List ℕ
once_lanes s = map (λ x. tower_part (bit_xor (s_box x) 0x63)) s

abbrev thrice_lanes : List ℕ → List ℕ
thrice_lanes s = map (λ x. tower_part (product 0x03 (bit_xor (s_box x) 0x63))) s

-- the column from which a lane of the next block comes
abbrev column_of : List ℕ → ℕ → ℕ → ℕ
column_of block c j = s_box (at block j ((c + j) % 4))

round_block : (n : ℕ) (block key : List ℕ) → n < 4 → IsBlock block → AreBytes key →
    round_of n (once_lanes (kept ((n + 3) % 4) block)) (thrice_lanes (kept ((n + 3) % 4) block)) (form_of_key n key)
    ≡ map tower_form (kept n (add_round_key (mix_columns (shift_rows (sub_bytes block))) key))
unfolding add_round_key mix_columns shift_rows sub_bytes kept three_rows
round_block n block key small is bytes =
    let P : List ℕ → Type 0 = λ t.
    round_of n (once_lanes (kept ((n + 3) % 4) t)) (thrice_lanes (kept ((n + 3) % 4) t)) (form_of_key n key)
    ≡ map tower_form (kept n (add_round_key (mix_columns (shift_rows (sub_bytes t))) key)) in
    let s = state_of (at block) in
    let kept_column : ℕ → ℕ → ℕ → ℕ = λ m r c. (c + 3 * m * r) % 4 in
    let lanes : ℕ → ℕ → ℕ → ℕ = λ m r c. round_lane (column_of block (kept_column m r c)) (λ j. at key j (kept_column m r c)) r in
    let bytes_of : ℕ → ℕ → ℕ → ℕ = λ m r c.
    tower_form (bit_xor (row_times_column mix r (column_of block (kept_column m r c))) (at key r (kept_column m r c))) in
    subst P (state_of-at block is.size)
    (by_row (λ m. round_of m (once_lanes (kept ((m + 3) % 4) s)) (thrice_lanes (kept ((m + 3) % 4) s)) (form_of_key m key) ≡ state_of (lanes m))
    refl refl refl refl n small
    ∙ same_state (lanes n) (bytes_of n)
    (λ r c row. round_lane_is r (column_of block (kept_column n r c)) (λ j. at key j (kept_column n r c)) row
    (λ j. s_box_byte _ (place block (j + 4 * ((kept_column n r c + j) % 4)) is.bytes)) (λ j. place key (j + 4 * kept_column n r c) bytes))
    ∙ by_row (λ m. state_of (bytes_of m) ≡ map tower_form (kept m (add_round_key (mix_columns (shift_rows (sub_bytes s))) key)))
    refl refl refl refl n small)

pub round_lanes : (n : ℕ) (form key once thrice block round_key : List ℕ) → n < 4 → IsBlock block → AreBytes round_key →
    form ≡ map tower_form (kept ((n + 3) % 4) block) → key ≡ form_of_key n round_key →
    once ≡ map (read_from ONCE_IO ONCE_JO) form → thrice ≡ map (read_from THRICE_IO THRICE_JO) form →
    round_of n once thrice key ≡ map tower_form (kept n (add_round_key (mix_columns (shift_rows (sub_bytes block))) round_key))
round_lanes n form key once thrice block round_key small is key_is form_is key_form once_read thrice_read =
    let kept_is = IsBlock-kept ((n + 3) % 4) block is in
    let once_lane = of_block tower_form (read_from ONCE_IO ONCE_JO) (λ x. tower_part (bit_xor (s_box x) 0x63)) once_is _ form once kept_is form_is once_read in
    let thrice_lane = of_block tower_form (read_from THRICE_IO THRICE_JO) (λ x. tower_part (product 0x03 (bit_xor (s_box x) 0x63))) thrice_is _ form thrice kept_is form_is thrice_read in
    (λ i. round_of n (once_lane i) (thrice_lane i) (key_form i)) ∙ round_block n block round_key small is key_is

pub last_round_lanes : (form key once block : List ℕ) → length key ≡ 16 → once ≡ map substituted_of form →
    IsBlock block → form ≡ map tower_form (kept 1 block) →
    zip2 bit_xor (picked once shifted_twice) (chunk 0 16 key) ≡ add_round_key (shift_rows (sub_bytes block)) key
unfolding add_round_key shift_rows sub_bytes kept
last_round_lanes form key once block size once_is is form_is =
    let P : List ℕ → List ℕ → Type 0 = λ t k.
    zip2 bit_xor (picked (map s_box (kept 1 t)) shifted_twice) (chunk 0 16 k) ≡ add_round_key (shift_rows (sub_bytes t)) k in
    let lanes = of_block tower_form substituted_of s_box sub_is _ form once (IsBlock-kept 1 block is) form_is once_is in
    (λ i. zip2 bit_xor (picked (lanes i) shifted_twice) (chunk 0 16 key)) ∙ at_16 P block key is.size size refl
