-- CIPHER and INVCIPHER (FIPS 197, sections 5.1 and 5.3). A block is the list of its 16 bytes.
use Rattle.std.specs.Prelude.{All, ◌≡◌, ℕ, zero, suc, ◌-◌, ◌<◌, List, length}
use Rattle.krb_aes.specs.State.{sub_bytes, inv_sub_bytes, shift_rows, inv_shift_rows, mix_columns, inv_mix_columns, add_round_key}
use Rattle.krb_aes.specs.KeyExpansion.{key_expansion, round_count, round_key}

-- 16 bytes
pub record IsBlock (block : List ℕ) : Type 0 where
  pub size : length block ≡ 16
  pub bytes : All (λ byte. byte < 256) block

-- the state after the first round key and j rounds, with the round keys k (5.1, algorithm 1)
unfoldable pub rounds : (ℕ → List ℕ) → ℕ → List ℕ → List ℕ
rounds k zero s = add_round_key s (k 0)
rounds k (suc j) s = add_round_key (mix_columns (shift_rows (sub_bytes (rounds k j s)))) (k (suc j))

-- n rounds, the last without MixColumns
abbrev pub cipher_with : (ℕ → List ℕ) → ℕ → List ℕ → List ℕ
cipher_with k n s = add_round_key (shift_rows (sub_bytes (rounds k (n - 1) s))) (k n)

-- CIPHER of a block under a key (5.1)
unfoldable pub cipher : List ℕ → List ℕ → List ℕ
cipher key block = cipher_with (round_key (key_expansion key)) (round_count key) block

-- the rest of INVCIPHER, from the state s before round key j: rounds j down to 1, and the last
-- (5.3, algorithm 3)
unfoldable pub inv_rounds : (ℕ → List ℕ) → ℕ → List ℕ → List ℕ
inv_rounds k zero s = add_round_key (inv_sub_bytes (inv_shift_rows s)) (k 0)
inv_rounds k (suc j) s =
    inv_rounds k j (inv_mix_columns (add_round_key (inv_sub_bytes (inv_shift_rows s)) (k (suc j))))

-- INVCIPHER of a block under a key (5.3)
unfoldable pub inv_cipher : List ℕ → List ℕ → List ℕ
inv_cipher key block =
    let k = round_key (key_expansion key) in
    inv_rounds k (round_count key - 1) (add_round_key block (k (round_count key)))
