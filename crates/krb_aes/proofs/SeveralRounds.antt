-- The round of the inverse cipher for several blocks at once: InvMixColumns as MixColumns after another matrix.
use Rattle.std.proofs.Common.{◌≡◌, ℕ, ◌+◌, ◌-◌, ◌*◌, ◌%◌, ◌<◌, List, [], ◌∷◌, map, refl, sym, ap, ◌∙◌, subst, lit<, bit_xor}
use Rattle.std.specs.Prelude.{slice_index}
use Rattle.std.specs.Simd.Lanes.{zip2, chunk}
use Rattle.std.proofs.lemmas.List.Elements.{All-from_recursion}
use Rattle.std.proofs.lemmas.Nat.{xor_of_8}
use Rattle.krb_aes.specs.Field.{product}
use Rattle.krb_aes.specs.SBox.{inv_s_box}
use Rattle.krb_aes.specs.State.{at, state_of, row_times_column, mix, inv_mix, inv_sub_bytes, inv_shift_rows, mix_columns, inv_mix_columns, add_round_key}
use Rattle.krb_aes.specs.Cipher.{IsBlock}
use Rattle.krb_aes.specs.Inner.Schedule.{kept, inv_form_of_key}
use Rattle.krb_aes.specs.Inner.Tower.{by_nibbles, read_from, inv_form}
use Rattle.krb_aes.specs.declared.tower.TheConstants.{INV_04_IO, INV_04_JO, INV_01_IO, INV_01_JO, INV_THRICE_LOW, INV_THRICE_HIGH}
use Rattle.krb_aes.specs.declared.lanes.TheConstants.{NEXT_ROWS, OPPOSITE_ROWS}
use Rattle.krb_aes.proofs.Bytes.{AreBytes, place, small_place, row_byte, inv_s_box_byte, IsBlock-state_of, state_of-at, same_state}
use Rattle.krb_aes.proofs.MixLaws.{opposites, mix_of_opposites}
use Rattle.krb_aes.proofs.ProductRules.{product_by_00, product_by_03, product_by_05}
use Rattle.krb_aes.proofs.StateLaws.{inv_mix_small, inv_mix_columns-added, IsBlock-restored, mix_small}
use Rattle.krb_aes.proofs.Sums.{Sum, term, plus, value, same_sum, linear_sum}
use Rattle.krb_aes.proofs.LaneTests.{inv_columns, inv_part, inv_form_is, inv_01_is, inv_04_is, inv_thrice_is}
use Rattle.krb_aes.proofs.LaneRounds.{of_block, mixed_lane, mixed_lane_is, IsBlock-kept, by_row, turned_lanes, at_16}
use Rattle.krb_aes.proofs.InvRounds.{inv_column_of, kept_column}

-- ---- one lane

-- a byte, 04 times it and 04 times the byte two rows below
abbrev opposite_lane : ℕ → (ℕ → ℕ) → ℕ
opposite_lane r y = bit_xor (bit_xor (y r) (product 0x04 (y r))) (product 0x04 (y ((r + 2) % 4)))

opposite_lane_is : (r : ℕ) (y : ℕ → ℕ) → r < 4 → ((j : ℕ) → y j < 256) → opposite_lane r y ≡ row_times_column opposites r y
opposite_lane_is r y small bytes =
    let none : (j : ℕ) → 0 ≡ product 0x00 (y j) = λ j. sym (product_by_00 (y j) (bytes j)) in
    let five : (j : ℕ) → bit_xor (y j) (product 0x04 (y j)) ≡ product 0x05 (y j) = λ j. sym (product_by_05 (y j) (bytes j)) in
    let zero = term 3 in
    let order : (j k : ℕ) (s : Sum) → _ = λ j k.
    same_sum (slice_index (y j ∷ product 0x04 (y j) ∷ product 0x04 (y k) ∷ 0 ∷ [])) (plus (plus (term 0) (term 1)) (term 2)) in
    let own = plus (term 0) (term 1) in
    let other = term 2 in
    by_row (λ q. opposite_lane q y ≡ row_times_column opposites q y)
    (order 0 2 (plus (plus (plus own zero) other) zero) refl
    ∙ (λ i. bit_xor (bit_xor (bit_xor (five 0 i) (none 1 i)) (product 0x04 (y 2))) (none 3 i)))
    (order 1 3 (plus (plus (plus zero own) zero) other) refl
    ∙ (λ i. bit_xor (bit_xor (bit_xor (none 0 i) (five 1 i)) (none 2 i)) (product 0x04 (y 3))))
    (order 2 0 (plus (plus (plus other zero) own) zero) refl
    ∙ (λ i. bit_xor (bit_xor (bit_xor (product 0x04 (y 0)) (none 1 i)) (five 2 i)) (none 3 i)))
    (order 3 1 (plus (plus (plus zero other) zero) own) refl
    ∙ (λ i. bit_xor (bit_xor (bit_xor (none 0 i) (product 0x04 (y 1))) (none 2 i)) (five 3 i))) r small

-- the same in the form that decryption keeps
abbrev opposite_form : ℕ → (ℕ → ℕ) → ℕ
opposite_form r y =
    bit_xor (bit_xor (inv_part (y r)) (inv_part (product 0x04 (y r)))) (inv_part (product 0x04 (y ((r + 2) % 4))))

opposite_form_is : (r : ℕ) (y : ℕ → ℕ) → r < 4 → ((j : ℕ) → y j < 256) →
    opposite_form r y ≡ inv_part (row_times_column opposites r y)
opposite_form_is r y small bytes =
    linear_sum inv_columns (slice_index (y r ∷ product 0x04 (y r) ∷ product 0x04 (y ((r + 2) % 4)) ∷ [])) (plus (plus (term 0) (term 1)) (term 2))
    ∙ ap inv_part (opposite_lane_is r y small bytes)

-- the lane at row r, of a column v before MixColumns and of the key's byte
abbrev several_lane : ℕ → (ℕ → ℕ) → ℕ → ℕ
several_lane r v k =
    let sum : ℕ → ℕ = λ j. bit_xor (inv_part (product 0x03 (v (j % 4)))) (inv_part (v ((j + 2) % 4))) in
    bit_xor (sum (r + 1)) (bit_xor (bit_xor (inv_part (v r)) (inv_form k)) (sum r))

lane_sum : (v0 v1 v2 v3 k : ℕ) → v0 < 256 → v1 < 256 → k < 256 →
    bit_xor (bit_xor (inv_part (product 0x03 v1)) (inv_part v3))
    (bit_xor (bit_xor (inv_part v0) (inv_form k)) (bit_xor (inv_part (product 0x03 v0)) (inv_part v2)))
    ≡ bit_xor (inv_part (bit_xor (bit_xor (product 0x02 v0) (bit_xor (product 0x02 v1) v1)) (bit_xor (bit_xor v2 v3) k))) 0x2c
lane_sum v0 v1 v2 v3 k v0_byte v1_byte k_byte =
    let all : ℕ → ℕ = slice_index (product 0x02 v0 ∷ product 0x02 v1 ∷ v0 ∷ v1 ∷ v2 ∷ v3 ∷ k ∷ []) in
    let thrice_0 = plus (term 0) (term 2) in
    let thrice_1 = plus (term 1) (term 3) in
    let parts : ℕ → ℕ = slice_index (value all thrice_1 ∷ v3 ∷ v0 ∷ k ∷ value all thrice_0 ∷ v2 ∷ []) in
    let forms : ℕ → ℕ =
    slice_index (inv_part (parts 0) ∷ inv_part v3 ∷ inv_part v0 ∷ inv_part k ∷ inv_part (parts 4) ∷ inv_part v2 ∷ 0x2c ∷ []) in
    let first = plus (term 0) (term 1) in
    let last = plus (term 4) (term 5) in
    let sum = plus first (plus (plus (term 2) (term 3)) last) in
    rw (product_by_03 v0 v0_byte, product_by_03 v1 v1_byte, inv_form_is k k_byte)
    (same_sum forms (plus first (plus (plus (term 2) (plus (term 3) (term 6))) last)) (plus sum (term 6)) refl
    ∙ ap (λ x. bit_xor x 0x2c)
    (linear_sum inv_columns parts sum
    ∙ ap inv_part
    (same_sum all (plus (plus thrice_1 (term 5)) (plus (plus (term 2) (term 6)) (plus thrice_0 (term 4))))
    (plus (plus (term 0) thrice_1) (plus (plus (term 4) (term 5)) (term 6))) refl)))

several_lane_is : (r : ℕ) (v : ℕ → ℕ) (k : ℕ) → r < 4 → ((j : ℕ) → v j < 256) → k < 256 →
    several_lane r v k ≡ inv_form (bit_xor (row_times_column mix r v) k)
several_lane_is r v k small bytes k_byte =
    let from : (i j m n : ℕ) → _ = λ i j m n. lane_sum (v i) (v j) (v m) (v n) k (bytes i) (bytes j) k_byte in
    by_row (λ q. several_lane q v k ≡ bit_xor (inv_part (mixed_lane q v k)) 0x2c)
    (from 0 1 2 3) (from 1 2 3 0) (from 2 3 0 1) (from 3 0 1 2) r small
    ∙ ap (λ x. bit_xor (inv_part x) 0x2c) (mixed_lane_is r v k small bytes)
    ∙ sym (inv_form_is _ (xor_of_8 _ k (row_byte mix r v (mix_small r) bytes) k_byte))

-- ---- all lanes

opposites_small : (r k : ℕ) → opposites r k < 16
opposites_small r k =
    small_place (5 ∷ 0 ∷ 4 ∷ 0 ∷ []) ((k + 4 - r) % 4)
    (All-from_recursion (λ x. x < 16) (5 ∷ 0 ∷ 4 ∷ 0 ∷ []) (lit< tt, (lit< tt, (lit< tt, (lit< tt, tt)))))

-- the state before MixColumns
abbrev with_opposites : List ℕ → List ℕ
with_opposites s = state_of (λ r c. row_times_column opposites r (λ k. at s k c))

IsBlock-with_opposites : (s : List ℕ) → IsBlock s → IsBlock (with_opposites s)
IsBlock-with_opposites s is =
    IsBlock-state_of _ (λ r c. row_byte opposites r (λ k. at s k c) (opposites_small r) (λ k. place s (k + 4 * c) is.bytes))

mixed_opposites : (s : List ℕ) → IsBlock s → mix_columns (with_opposites s) ≡ inv_mix_columns s
unfolding mix_columns inv_mix_columns
mixed_opposites s is =
    same_state (λ r c. row_times_column mix r (λ j. row_times_column opposites j (λ k. at s k c)))
    (λ r c. row_times_column inv_mix r (λ k. at s k c))
    (λ r c small. mix_of_opposites r (λ k. at s k c) small (λ k. place s (k + 4 * c) is.bytes))

IsBlock-mixed_key : (key : List ℕ) → AreBytes key → IsBlock (inv_mix_columns key)
unfolding inv_mix_columns
IsBlock-mixed_key key bytes =
    IsBlock-state_of _ (λ r c. row_byte inv_mix r (λ k. at key k c) (inv_mix_small r) (λ k. place key (k + 4 * c) bytes))

abbrev pub mixed_of : ℕ → List ℕ → List ℕ → List ℕ
mixed_of m once four = zip2 bit_xor (zip2 bit_xor once four) (turned_lanes OPPOSITE_ROWS (m % 2) four)

abbrev forms_of : ℕ → List ℕ → List ℕ
forms_of m s = mixed_of m (map (λ x. inv_part (inv_s_box x)) s) (map (λ x. inv_part (product 0x04 (inv_s_box x))) s)

abbrev restored : List ℕ → List ℕ
restored block = inv_sub_bytes (inv_shift_rows block)

mixed_block : (m : ℕ) (block : List ℕ) → m < 4 → IsBlock block →
    forms_of m (kept ((m + 1) % 4) block) ≡ map inv_part (kept m (with_opposites (restored block)))
unfolding inv_shift_rows inv_sub_bytes kept
mixed_block m block small is =
    let P : List ℕ → Type 0 = λ t. forms_of m (kept ((m + 1) % 4) t) ≡ map inv_part (kept m (with_opposites (restored t))) in
    let s = state_of (at block) in
    let lanes : ℕ → ℕ → ℕ → ℕ = λ q r c. opposite_form r (inv_column_of block (kept_column q r c)) in
    let bytes_of : ℕ → ℕ → ℕ → ℕ = λ q r c. inv_part (row_times_column opposites r (inv_column_of block (kept_column q r c))) in
    subst P (state_of-at block is.size)
    (by_row (λ q. forms_of q (kept ((q + 1) % 4) s) ≡ state_of (lanes q)) refl refl refl refl m small
    ∙ same_state (lanes m) (bytes_of m)
    (λ r c row. opposite_form_is r (inv_column_of block (kept_column m r c)) row
    (λ j. inv_s_box_byte _ (place block (j + 4 * ((kept_column m r c + 4 - j) % 4)) is.bytes)))
    ∙ by_row (λ q. state_of (bytes_of q) ≡ map inv_part (kept q (with_opposites (restored s)))) refl refl refl refl m small)

abbrev several_of : ℕ → List ℕ → List ℕ → List ℕ → List ℕ
several_of m mixed thrice key =
    let sum = zip2 bit_xor thrice (turned_lanes OPPOSITE_ROWS (m % 2) mixed) in
    zip2 bit_xor (turned_lanes NEXT_ROWS m sum) (zip2 bit_xor (zip2 bit_xor mixed (chunk 0 16 key)) sum)

abbrev several_forms : ℕ → List ℕ → List ℕ → List ℕ
several_forms m s key = several_of m (map inv_part (kept m s)) (map (λ x. inv_part (product 0x03 x)) (kept m s)) (kept m (map inv_form key))

several_block : (m : ℕ) (s key : List ℕ) → m < 4 → IsBlock s → IsBlock key →
    several_forms m s key ≡ map inv_form (kept m (add_round_key (mix_columns s) key))
unfolding add_round_key mix_columns kept
several_block m s key small is key_is =
    let P : List ℕ → List ℕ → Type 0 = λ t k. several_forms m t k ≡ map inv_form (kept m (add_round_key (mix_columns t) k)) in
    let t = state_of (at s) in
    let k = state_of (at key) in
    let column : ℕ → ℕ → ℕ → ℕ → ℕ = λ q r c j. at s j (kept_column q r c) in
    let lanes : ℕ → ℕ → ℕ → ℕ = λ q r c. several_lane r (column q r c) (at key r (kept_column q r c)) in
    let bytes_of : ℕ → ℕ → ℕ → ℕ = λ q r c. inv_form (bit_xor (row_times_column mix r (column q r c)) (at key r (kept_column q r c))) in
    at_16 P s key is.size key_is.size
    (by_row (λ q. several_forms q t k ≡ state_of (lanes q)) refl refl refl refl m small
    ∙ same_state (lanes m) (bytes_of m)
    (λ r c row. several_lane_is r (column m r c) (at key r (kept_column m r c)) row
    (λ j. place s (j + 4 * kept_column m r c) is.bytes) (place key (r + 4 * kept_column m r c) key_is.bytes))
    ∙ by_row (λ q. state_of (bytes_of q) ≡ map inv_form (kept q (add_round_key (mix_columns t) k))) refl refl refl refl m small)

pub several_lanes : (m : ℕ) (form key once four thrice block round_key : List ℕ) → m < 4 → IsBlock block → AreBytes round_key →
    form ≡ map inv_form (kept ((m + 1) % 4) block) → key ≡ inv_form_of_key m round_key →
    once ≡ map (read_from INV_01_IO INV_01_JO) form → four ≡ map (read_from INV_04_IO INV_04_JO) form →
    thrice ≡ map (by_nibbles INV_THRICE_LOW INV_THRICE_HIGH) (mixed_of m once four) →
    several_of m (mixed_of m once four) thrice key
    ≡ map inv_form (kept m (inv_mix_columns (add_round_key (restored block) round_key)))
several_lanes m form key once four thrice block round_key small is key_is form_is key_form once_is four_is thrice_is =
    let kept_is = IsBlock-kept ((m + 1) % 4) block is in
    let state = restored block in
    let state_is = IsBlock-restored block is in
    let before = with_opposites state in
    let before_is = IsBlock-with_opposites state state_is in
    let once_lanes = of_block inv_form (read_from INV_01_IO INV_01_JO) (λ x. inv_part (inv_s_box x)) inv_01_is _ form once kept_is form_is once_is in
    let four_lanes = of_block inv_form (read_from INV_04_IO INV_04_JO) (λ x. inv_part (product 0x04 (inv_s_box x))) inv_04_is _ form four kept_is form_is four_is in
    let mixed_lanes = (λ i. mixed_of m (once_lanes i) (four_lanes i)) ∙ mixed_block m block small is in
    let thrice_lanes =
    of_block inv_part (by_nibbles INV_THRICE_LOW INV_THRICE_HIGH) (λ x. inv_part (product 0x03 x)) inv_thrice_is _ _ thrice
    (IsBlock-kept m before before_is) mixed_lanes thrice_is in
    (λ i. several_of m (mixed_lanes i) (thrice_lanes i) (key_form i))
    ∙ several_block m before (inv_mix_columns round_key) small before_is (IsBlock-mixed_key round_key key_is)
    ∙ ap (λ s. map inv_form (kept m (add_round_key s (inv_mix_columns round_key)))) (mixed_opposites state state_is)
    ∙ ap (λ s. map inv_form (kept m s)) (sym (inv_mix_columns-added state round_key))
