-- Each transformation of the state is undone by its inverse, and makes blocks of blocks.
use Rattle.std.proofs.Common.{◌≡◌, ℕ, ◌+◌, ◌-◌, ◌*◌, ◌%◌, ◌<◌, List, [], ◌∷◌, length, refl, ap, ◌∙◌, bit_xor, lit<}
use Rattle.std.specs.Int.Bits.{xor_assoc, xor_self, xor_zero_r}
use Rattle.std.proofs.lemmas.Nat.{xor_of_8}
use Rattle.std.proofs.lemmas.List.Elements.{All-from_recursion}
use Rattle.krb_aes.specs.Field.{carryless, remainder, product, inverse, number_with}
use Rattle.krb_aes.specs.SBox.{affine, s_box, inv_s_box}
use Rattle.krb_aes.specs.State.{at, row_times_column, mix, inv_mix, sub_bytes, inv_sub_bytes, shift_rows, inv_shift_rows, mix_columns, inv_mix_columns, add_round_key}
use Rattle.krb_aes.specs.Cipher.{IsBlock}
use Rattle.krb_aes.proofs.ByteTests.{same_below}
use Rattle.krb_aes.proofs.Bytes.{AreBytes, place, small_place, s_box_byte, inv_s_box_byte, row_byte, IsBlock-state_of, state_of-at, same_state}
use Rattle.krb_aes.proofs.MixLaws.{row_times_column-xor, inv_mix_undoes_mix, mix_undoes_inv_mix}

inv_s_box-s_box : (x : ℕ) → x < 256 → inv_s_box (s_box x) ≡ x
unfolding carryless remainder product inverse number_with affine s_box inv_s_box
inv_s_box-s_box = same_below (λ x. inv_s_box (s_box x)) (λ x. x) 256 refl

s_box-inv_s_box : (x : ℕ) → x < 256 → s_box (inv_s_box x) ≡ x
unfolding carryless remainder product inverse number_with affine s_box inv_s_box
s_box-inv_s_box = same_below (λ x. s_box (inv_s_box x)) (λ x. x) 256 refl

-- the byte at row r and column c
at_byte : (s : List ℕ) → IsBlock s → (r c : ℕ) → at s r c < 256
at_byte s block r c = place s (r + 4 * c) block.bytes

pub unsubstituted : (s : List ℕ) → IsBlock s → inv_sub_bytes (inv_shift_rows (shift_rows (sub_bytes s))) ≡ s
unfolding sub_bytes inv_sub_bytes shift_rows inv_shift_rows
unsubstituted s block =
    same_state (λ r c. inv_s_box (s_box (at s r c))) (at s)
    (λ r c small. inv_s_box-s_box (at s r c) (at_byte s block r c))
    ∙ state_of-at s block.size

pub resubstituted : (s : List ℕ) → IsBlock s → shift_rows (sub_bytes (inv_sub_bytes (inv_shift_rows s))) ≡ s
unfolding sub_bytes inv_sub_bytes shift_rows inv_shift_rows
resubstituted s block =
    same_state (λ r c. s_box (inv_s_box (at s r c))) (at s)
    (λ r c small. s_box-inv_s_box (at s r c) (at_byte s block r c))
    ∙ state_of-at s block.size

pub unmixed : (s : List ℕ) → IsBlock s → inv_mix_columns (mix_columns s) ≡ s
unfolding mix_columns inv_mix_columns
unmixed s block =
    same_state (λ r c. row_times_column inv_mix r (λ j. row_times_column mix j (λ k. at s k c))) (at s)
    (λ r c small. inv_mix_undoes_mix r (λ k. at s k c) small (λ k. at_byte s block k c))
    ∙ state_of-at s block.size

pub remixed : (s : List ℕ) → IsBlock s → mix_columns (inv_mix_columns s) ≡ s
unfolding mix_columns inv_mix_columns
remixed s block =
    same_state (λ r c. row_times_column mix r (λ j. row_times_column inv_mix j (λ k. at s k c))) (at s)
    (λ r c small. mix_undoes_inv_mix r (λ k. at s k c) small (λ k. at_byte s block k c))
    ∙ state_of-at s block.size

xor_twice : (a b : ℕ) → bit_xor (bit_xor a b) b ≡ a
xor_twice a b = xor_assoc a b b ∙ ap (bit_xor a) (xor_self b) ∙ xor_zero_r a

pub added_twice : (s key : List ℕ) → length s ≡ 16 → add_round_key (add_round_key s key) key ≡ s
unfolding add_round_key
added_twice s key size =
    same_state (λ r c. bit_xor (bit_xor (at s r c) (at key r c)) (at key r c)) (at s)
    (λ r c small. xor_twice (at s r c) (at key r c))
    ∙ state_of-at s size

pub inv_mix_columns-added : (s key : List ℕ) →
    inv_mix_columns (add_round_key s key) ≡ add_round_key (inv_mix_columns s) (inv_mix_columns key)
unfolding inv_mix_columns add_round_key
inv_mix_columns-added s key =
    same_state (λ r c. row_times_column inv_mix r (λ k. bit_xor (at s k c) (at key k c)))
    (λ r c. bit_xor (row_times_column inv_mix r (λ k. at s k c)) (row_times_column inv_mix r (λ k. at key k c)))
    (λ r c small. row_times_column-xor inv_mix r (λ k. at s k c) (λ k. at key k c))

-- ---- blocks

pub mix_small : (r k : ℕ) → mix r k < 16
mix_small r k =
    small_place (2 ∷ 3 ∷ 1 ∷ 1 ∷ []) ((k + 4 - r) % 4)
    (All-from_recursion (λ x. x < 16) (2 ∷ 3 ∷ 1 ∷ 1 ∷ []) (lit< tt, (lit< tt, (lit< tt, (lit< tt, tt)))))

pub inv_mix_small : (r k : ℕ) → inv_mix r k < 16
inv_mix_small r k =
    small_place (14 ∷ 11 ∷ 13 ∷ 9 ∷ []) ((k + 4 - r) % 4)
    (All-from_recursion (λ x. x < 16) (14 ∷ 11 ∷ 13 ∷ 9 ∷ []) (lit< tt, (lit< tt, (lit< tt, (lit< tt, tt)))))

pub IsBlock-add_round_key : (s key : List ℕ) → IsBlock s → AreBytes key → IsBlock (add_round_key s key)
unfolding add_round_key
IsBlock-add_round_key s key block bytes =
    IsBlock-state_of _ (λ r c. xor_of_8 _ _ (at_byte s block r c) (place key (r + 4 * c) bytes))

pub IsBlock-shifted : (s : List ℕ) → IsBlock s → IsBlock (shift_rows (sub_bytes s))
unfolding sub_bytes shift_rows
IsBlock-shifted s block =
    IsBlock-state_of (λ r c. s_box (at s r ((c + r) % 4)))
    (λ r c. s_box_byte _ (at_byte s block r ((c + r) % 4)))

pub IsBlock-restored : (s : List ℕ) → IsBlock s → IsBlock (inv_sub_bytes (inv_shift_rows s))
unfolding inv_sub_bytes inv_shift_rows
IsBlock-restored s block =
    IsBlock-state_of (λ r c. inv_s_box (at s r ((c + 4 - r) % 4)))
    (λ r c. inv_s_box_byte _ (at_byte s block r ((c + 4 - r) % 4)))

pub IsBlock-mix_columns : (s : List ℕ) → IsBlock s → IsBlock (mix_columns s)
unfolding mix_columns
IsBlock-mix_columns s block =
    IsBlock-state_of _ (λ r c. row_byte mix r (λ k. at s k c) (mix_small r) (λ k. at_byte s block k c))

pub IsBlock-inv_mix_columns : (s : List ℕ) → IsBlock s → IsBlock (inv_mix_columns s)
unfolding inv_mix_columns
IsBlock-inv_mix_columns s block =
    IsBlock-state_of _ (λ r c. row_byte inv_mix r (λ k. at s k c) (inv_mix_small r) (λ k. at_byte s block k c))
