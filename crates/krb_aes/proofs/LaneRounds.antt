-- The rounds on 16 lanes: each lane is the byte of the state at its place.
use Rattle.std.proofs.Common.{◌≡◌, ℕ, zero, suc, ◌+◌, ◌*◌, ◌%◌, ◌<◌, List, [], ◌∷◌, ◌++◌, get_or, length, map, replicate, refl, lit<, sym, ap, ◌∙◌, subst, arith, bit_xor}
use Rattle.std.specs.Prelude.{slice_index}
use Rattle.std.specs.Simd.Lanes.{zip2, pick_l, chunk}
use Rattle.std.proofs.lemmas.Simd.{Each1-from_get_or}
use Rattle.krb_aes.specs.Field.{product}
use Rattle.krb_aes.specs.State.{at, state_of, row_times_column, mix, inv_mix, inv_mix_columns, add_round_key}
use Rattle.krb_aes.specs.Cipher.{IsBlock}
use Rattle.krb_aes.specs.Inner.Schedule.{kept, three_rows}
use Rattle.krb_aes.specs.Inner.Tower.{LanesBelow, looked_up}
use Rattle.krb_aes.specs.declared.lanes.TheConstants.{KEPT}
use Rattle.krb_aes.proofs.Bytes.{place, IsBlock-state_of, state_of-at, same_state}
use Rattle.krb_aes.proofs.LaneRules.{map_after}
use Rattle.krb_aes.proofs.Sums.{Sum, term, plus, value, terms, same_sum}
use Rattle.krb_aes.proofs.ProductRules.{product_by_01, product_by_03}

pub lanes_of_block : (s : List ℕ) → IsBlock s → LanesBelow 256 s
lanes_of_block s block = record {
  size = block.size;
  each = Each1-from_get_or (λ x. x < 256) s 0 (λ i within. place s i block.bytes);
}

-- a function of the forms of a block's bytes
pub of_block : (g f h : ℕ → ℕ) → ((x : ℕ) → x < 256 → f (g x) ≡ h x) → (block form read : List ℕ) → IsBlock block →
    form ≡ map g block → read ≡ map f form → read ≡ map h block
of_block g f h same block form read is form_is read_is =
    let lanes : LanesBelow 256 block = lanes_of_block block is in
    read_is ∙ ap (map f) form_is ∙ map_after g f h same block lanes.each

-- what holds of each of four numbers
pub by_row : (P : ℕ → Type 0) → P 0 → P 1 → P 2 → P 3 → (n : ℕ) → n < 4 → P n
by_row P first second third fourth zero small = first
by_row P first second third fourth (suc zero) small = second
by_row P first second third fourth (suc (suc zero)) small = third
by_row P first second third fourth (suc (suc (suc zero))) small = fourth
by_row P first second third fourth (suc (suc (suc (suc n)))) small = absurd (omega arith)

pub IsBlock-kept : (n : ℕ) (s : List ℕ) → IsBlock s → IsBlock (kept n s)
unfolding kept
IsBlock-kept n s is = IsBlock-state_of _ (λ r c. place s (r + 4 * ((c + 3 * n * r) % 4)) is.bytes)

-- with no ShiftRows left out
pub kept_none : (s : List ℕ) → IsBlock s → kept 0 s ≡ s
unfolding kept
kept_none s is = state_of-at s is.size

-- ---- sums in another order

-- the sum of four terms, from the one at place i on
abbrev four_from : ℕ → Sum
four_from i = plus (plus (plus (term i) (term ((i + 1) % 4))) (term ((i + 2) % 4))) (term ((i + 3) % 4))

abbrev in_pairs : Sum → Sum
in_pairs last = plus (plus (term 0) (term 1)) last

in_pairs_with : (a b c d k : ℕ) (i : ℕ) → i < 4 →
    bit_xor (bit_xor a b) (bit_xor (bit_xor c d) k) ≡ value (slice_index (a ∷ b ∷ c ∷ d ∷ k ∷ [])) (plus (four_from i) (term 4))
in_pairs_with a b c d k i small =
    same_sum (slice_index (a ∷ b ∷ c ∷ d ∷ k ∷ [])) (in_pairs (plus (plus (term 2) (term 3)) (term 4))) (plus (four_from i) (term 4))
    (by_row (λ j. terms (in_pairs (plus (plus (term 2) (term 3)) (term 4))) ≡ terms (plus (four_from j) (term 4))) refl refl refl refl i small)

of_pairs : (a b c d : ℕ) (i : ℕ) → i < 4 →
    bit_xor (bit_xor a b) (bit_xor c d) ≡ value (slice_index (a ∷ b ∷ c ∷ d ∷ [])) (four_from i)
of_pairs a b c d i small =
    same_sum (slice_index (a ∷ b ∷ c ∷ d ∷ [])) (in_pairs (plus (term 2) (term 3))) (four_from i)
    (by_row (λ j. terms (in_pairs (plus (term 2) (term 3))) ≡ terms (four_from j)) refl refl refl refl i small)

-- ---- MixColumns, from row r of the column y on

abbrev pub mixed_lane : ℕ → (ℕ → ℕ) → ℕ → ℕ
mixed_lane r y k =
    bit_xor (bit_xor (product 0x02 (y r)) (bit_xor (product 0x02 (y ((r + 1) % 4))) (y ((r + 1) % 4))))
    (bit_xor (bit_xor (y ((r + 2) % 4)) (y ((r + 3) % 4))) k)

pub mixed_lane_is : (r : ℕ) (y : ℕ → ℕ) (k : ℕ) → r < 4 → ((j : ℕ) → y j < 256) →
    mixed_lane r y k ≡ bit_xor (row_times_column mix r y) k
mixed_lane_is r y k small bytes =
    let by_01 : (j : ℕ) → y j ≡ product 0x01 (y j) = λ j. sym (product_by_01 (y j) (bytes j)) in
    let by_03 : (j : ℕ) → bit_xor (product 0x02 (y j)) (y j) ≡ product 0x03 (y j) = λ j. sym (product_by_03 (y j) (bytes j)) in
    let order : (i a b c d : ℕ) → i < 4 → _ = λ i a b c d i_small.
    (λ t. bit_xor (bit_xor (product 0x02 (y a)) (by_03 b t)) (bit_xor (bit_xor (by_01 c t) (by_01 d t)) k))
    ∙ in_pairs_with (product 0x02 (y a)) (product 0x03 (y b)) (product 0x01 (y c)) (product 0x01 (y d)) k i i_small in
    by_row (λ q. mixed_lane q y k ≡ bit_xor (row_times_column mix q y) k)
    (order 0 0 1 2 3 (lit< tt)) (order 3 1 2 3 0 (lit< tt)) (order 2 2 3 0 1 (lit< tt)) (order 1 3 0 1 2 (lit< tt)) r small

abbrev pub inv_mixed_lane : ℕ → (ℕ → ℕ) → ℕ
inv_mixed_lane r y =
    bit_xor (bit_xor (product 0x0e (y r)) (product 0x0b (y ((r + 1) % 4))))
    (bit_xor (product 0x0d (y ((r + 2) % 4))) (product 0x09 (y ((r + 3) % 4))))

pub inv_mixed_lane_is : (r : ℕ) (y : ℕ → ℕ) → r < 4 → inv_mixed_lane r y ≡ row_times_column inv_mix r y
inv_mixed_lane_is r y small =
    let order : (i a b c d : ℕ) → i < 4 → _ =
    λ i a b c d. of_pairs (product 0x0e (y a)) (product 0x0b (y b)) (product 0x0d (y c)) (product 0x09 (y d)) i in
    by_row (λ q. inv_mixed_lane q y ≡ row_times_column inv_mix q y)
    (order 0 0 1 2 3 (lit< tt)) (order 3 1 2 3 0 (lit< tt)) (order 2 2 3 0 1 (lit< tt)) (order 1 3 0 1 2 (lit< tt)) r small

-- ---- whole rounds

abbrev pub shifted_twice : List ℕ
shifted_twice = 0 ∷ 9 ∷ 2 ∷ 11 ∷ 4 ∷ 13 ∷ 6 ∷ 15 ∷ 8 ∷ 1 ∷ 10 ∷ 3 ∷ 12 ∷ 5 ∷ 14 ∷ 7 ∷ []

abbrev turned_1 : List ℕ
turned_1 = 1 ∷ 2 ∷ 3 ∷ 0 ∷ 5 ∷ 6 ∷ 7 ∷ 4 ∷ 9 ∷ 10 ∷ 11 ∷ 8 ∷ 13 ∷ 14 ∷ 15 ∷ 12 ∷ []

abbrev turned_2 : List ℕ
turned_2 = 2 ∷ 3 ∷ 0 ∷ 1 ∷ 6 ∷ 7 ∷ 4 ∷ 5 ∷ 10 ∷ 11 ∷ 8 ∷ 9 ∷ 14 ∷ 15 ∷ 12 ∷ 13 ∷ []

abbrev turned_3 : List ℕ
turned_3 = 3 ∷ 0 ∷ 1 ∷ 2 ∷ 7 ∷ 4 ∷ 5 ∷ 6 ∷ 11 ∷ 8 ∷ 9 ∷ 10 ∷ 15 ∷ 12 ∷ 13 ∷ 14 ∷ []

-- the lanes of v at these places
abbrev pub picked : List ℕ → List ℕ → List ℕ
picked v places = pick_l 0 (v ++ v) places

pub at_16 : (P : List ℕ → List ℕ → Type 0) (s key : List ℕ) → length s ≡ 16 → length key ≡ 16 →
    P (state_of (at s)) (state_of (at key)) → P s key
at_16 P s key s_size key_size h =
    subst (λ t. P t key) (state_of-at s s_size) (subst (λ t. P (state_of (at s)) t) (state_of-at key key_size) h)

pub inv_mix_lanes : (s e b d n : List ℕ) → length s ≡ 16 →
    e ≡ map (product 0x0e) s → b ≡ map (product 0x0b) s → d ≡ map (product 0x0d) s → n ≡ map (product 0x09) s →
    zip2 bit_xor (zip2 bit_xor e (picked b turned_1)) (zip2 bit_xor (picked d turned_2) (picked n turned_3)) ≡ inv_mix_columns s
unfolding inv_mix_columns
inv_mix_lanes s e b d n size e_is b_is d_is n_is =
    let P : List ℕ → Type 0 = λ t.
    zip2 bit_xor (zip2 bit_xor (map (product 0x0e) t) (picked (map (product 0x0b) t) turned_1))
    (zip2 bit_xor (picked (map (product 0x0d) t) turned_2) (picked (map (product 0x09) t) turned_3)) ≡ inv_mix_columns t in
    (λ i. zip2 bit_xor (zip2 bit_xor (e_is i) (picked (b_is i) turned_1)) (zip2 bit_xor (picked (d_is i) turned_2) (picked (n_is i) turned_3)))
    ∙ subst P (state_of-at s size)
    (same_state (λ r c. inv_mixed_lane r (λ j. at s j c)) (λ r c. row_times_column inv_mix r (λ j. at s j c))
    (λ r c small. inv_mixed_lane_is r (λ j. at s j c) small))

-- a key with the constant of SubBytes, and the sums of three rows of it
abbrev pub keyed_lanes : List ℕ → List ℕ
keyed_lanes key = zip2 bit_xor (replicate 16 0x63) (chunk 0 16 key)

pub three_rows_lanes : (key : List ℕ) → length key ≡ 16 →
    zip2 bit_xor (keyed_lanes key) (zip2 bit_xor (picked (keyed_lanes key) turned_1) (picked (keyed_lanes key) turned_2))
    ≡ three_rows (add_round_key (replicate 16 0x63) key)
unfolding add_round_key three_rows
three_rows_lanes key size =
    subst (λ k. zip2 bit_xor (keyed_lanes k) (zip2 bit_xor (picked (keyed_lanes k) turned_1) (picked (keyed_lanes k) turned_2))
    ≡ three_rows (add_round_key (replicate 16 0x63) k)) (state_of-at key size) refl

abbrev pub turned_lanes : List (List ℕ) → ℕ → List ℕ → List ℕ
turned_lanes places n s = map (looked_up s) (get_or places n [])

pub kept_lanes : (n : ℕ) (s : List ℕ) → n < 4 → length s ≡ 16 → turned_lanes KEPT n s ≡ kept n s
unfolding kept
kept_lanes n s small size =
    subst (λ t. turned_lanes KEPT n t ≡ kept n t) (state_of-at s size)
    (by_row (λ m. turned_lanes KEPT m (state_of (at s)) ≡ kept m (state_of (at s))) refl refl refl refl n small)

pub first_key_lanes : (s key : List ℕ) → length s ≡ 16 → length key ≡ 16 → zip2 bit_xor s (chunk 0 16 key) ≡ add_round_key s key
unfolding add_round_key
first_key_lanes s key s_size key_size =
    at_16 (λ t k. zip2 bit_xor t (chunk 0 16 k) ≡ add_round_key t k) s key s_size key_size refl

pub chunk_16 : (s : List ℕ) → length s ≡ 16 → chunk 0 16 s ≡ s
chunk_16 s size = subst (λ t. chunk 0 16 t ≡ t) (state_of-at s size) refl
