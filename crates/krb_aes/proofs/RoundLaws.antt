-- Decryption undoes encryption, and encryption undoes decryption.
use Rattle.std.proofs.Common.{◌≡◌, ℕ, zero, suc, ◌-◌, List, ap, ◌∙◌}
use Rattle.krb_aes.specs.State.{sub_bytes, inv_sub_bytes, shift_rows, inv_shift_rows, mix_columns, inv_mix_columns, add_round_key}
use Rattle.krb_aes.specs.KeyExpansion.{IsKey, key_expansion, round_count, round_key}
use Rattle.krb_aes.specs.Cipher.{IsBlock, rounds, inv_rounds, cipher, inv_cipher}
use Rattle.krb_aes.proofs.Bytes.{AreBytes, round_key_bytes}
use Rattle.krb_aes.proofs.StateLaws.{unsubstituted, resubstituted, unmixed, remixed, added_twice, IsBlock-add_round_key, IsBlock-shifted, IsBlock-restored, IsBlock-mix_columns, IsBlock-inv_mix_columns}

abbrev pub AreKeys : (ℕ → List ℕ) → Type 0
AreKeys k = (j : ℕ) → AreBytes (k j)

pub IsBlock-rounds : (k : ℕ → List ℕ) (j : ℕ) (s : List ℕ) → AreKeys k → IsBlock s → IsBlock (rounds k j s)
unfolding rounds
IsBlock-rounds k zero s keys block = IsBlock-add_round_key s (k 0) block (keys 0)
IsBlock-rounds k (suc j) s keys block =
    IsBlock-add_round_key _ (k (suc j))
    (IsBlock-mix_columns _ (IsBlock-shifted _ (IsBlock-rounds k j s keys block))) (keys (suc j))

-- a state before InvShiftRows goes to a block
IsBlock-inv_rounds : (k : ℕ → List ℕ) (j : ℕ) (s : List ℕ) → AreKeys k → IsBlock s → IsBlock (inv_rounds k j s)
unfolding inv_rounds
IsBlock-inv_rounds k zero s keys block = IsBlock-add_round_key _ (k 0) (IsBlock-restored s block) (keys 0)
IsBlock-inv_rounds k (suc j) s keys block =
    IsBlock-inv_rounds k j _ keys
    (IsBlock-inv_mix_columns _ (IsBlock-add_round_key _ (k (suc j)) (IsBlock-restored s block) (keys (suc j))))

rounds_undone : (k : ℕ → List ℕ) (j : ℕ) (s : List ℕ) → AreKeys k → IsBlock s →
    inv_rounds k j (shift_rows (sub_bytes (rounds k j s))) ≡ s
unfolding rounds inv_rounds
rounds_undone k zero s keys block =
    ap (λ t. add_round_key t (k 0)) (unsubstituted _ (IsBlock-add_round_key s (k 0) block (keys 0)))
    ∙ added_twice s (k 0) block.size
rounds_undone k (suc j) s keys block =
    let before = rounds k j s in
    let shifted = shift_rows (sub_bytes before) in
    let shifted_block : IsBlock shifted = IsBlock-shifted before (IsBlock-rounds k j s keys block) in
    let mixed_block : IsBlock (mix_columns shifted) = IsBlock-mix_columns shifted shifted_block in
    ap (λ t. inv_rounds k j (inv_mix_columns (add_round_key t (k (suc j)))))
    (unsubstituted _ (IsBlock-add_round_key _ (k (suc j)) mixed_block (keys (suc j))))
    ∙ ap (λ t. inv_rounds k j (inv_mix_columns t)) (added_twice (mix_columns shifted) (k (suc j)) mixed_block.size)
    ∙ ap (inv_rounds k j) (unmixed shifted shifted_block)
    ∙ rounds_undone k j s keys block

rounds_redone : (k : ℕ → List ℕ) (j : ℕ) (s : List ℕ) → AreKeys k → IsBlock s →
    shift_rows (sub_bytes (rounds k j (inv_rounds k j s))) ≡ s
unfolding rounds inv_rounds
rounds_redone k zero s keys block =
    let restored = inv_sub_bytes (inv_shift_rows s) in
    ap (λ t. shift_rows (sub_bytes t)) (added_twice restored (k 0) (IsBlock-restored s block).size)
    ∙ resubstituted s block
rounds_redone k (suc j) s keys block =
    let restored = inv_sub_bytes (inv_shift_rows s) in
    let restored_block : IsBlock restored = IsBlock-restored s block in
    let keyed = add_round_key restored (k (suc j)) in
    let keyed_block : IsBlock keyed = IsBlock-add_round_key restored (k (suc j)) restored_block (keys (suc j)) in
    ap (λ t. shift_rows (sub_bytes (add_round_key (mix_columns t) (k (suc j)))))
    (rounds_redone k j (inv_mix_columns keyed) keys (IsBlock-inv_mix_columns keyed keyed_block))
    ∙ ap (λ t. shift_rows (sub_bytes (add_round_key t (k (suc j))))) (remixed keyed keyed_block)
    ∙ ap (λ t. shift_rows (sub_bytes t)) (added_twice restored (k (suc j)) restored_block.size)
    ∙ resubstituted s block

pub IsBlock-cipher : (key block : List ℕ) → IsKey key → IsBlock block → IsBlock (cipher key block)
unfolding cipher
IsBlock-cipher key block is_key is_block =
    let k = round_key (key_expansion key) in
    let keys : AreKeys k = λ j. round_key_bytes key j is_key.bytes in
    IsBlock-add_round_key _ (k (round_count key))
    (IsBlock-shifted _ (IsBlock-rounds k (round_count key - 1) block keys is_block)) (keys (round_count key))

pub IsBlock-inv_cipher : (key block : List ℕ) → IsKey key → IsBlock block → IsBlock (inv_cipher key block)
unfolding inv_cipher
IsBlock-inv_cipher key block is_key is_block =
    let k = round_key (key_expansion key) in
    let keys : AreKeys k = λ j. round_key_bytes key j is_key.bytes in
    IsBlock-inv_rounds k (round_count key - 1) _ keys
    (IsBlock-add_round_key block (k (round_count key)) is_block (keys (round_count key)))

pub inv_cipher-cipher : (key block : List ℕ) → IsKey key → IsBlock block → inv_cipher key (cipher key block) ≡ block
unfolding cipher inv_cipher
inv_cipher-cipher key block is_key is_block =
    let k = round_key (key_expansion key) in
    let n = round_count key in
    let keys : AreKeys k = λ j. round_key_bytes key j is_key.bytes in
    let last = shift_rows (sub_bytes (rounds k (n - 1) block)) in
    let last_block : IsBlock last = IsBlock-shifted _ (IsBlock-rounds k (n - 1) block keys is_block) in
    ap (inv_rounds k (n - 1)) (added_twice last (k n) last_block.size)
    ∙ rounds_undone k (n - 1) block keys is_block

pub cipher-inv_cipher : (key block : List ℕ) → IsKey key → IsBlock block → cipher key (inv_cipher key block) ≡ block
unfolding cipher inv_cipher
cipher-inv_cipher key block is_key is_block =
    let k = round_key (key_expansion key) in
    let n = round_count key in
    let keys : AreKeys k = λ j. round_key_bytes key j is_key.bytes in
    let first = add_round_key block (k n) in
    let first_block : IsBlock first = IsBlock-add_round_key block (k n) is_block (keys n) in
    ap (λ t. add_round_key t (k n)) (rounds_redone k (n - 1) first keys first_block)
    ∙ added_twice block (k n) is_block.size
