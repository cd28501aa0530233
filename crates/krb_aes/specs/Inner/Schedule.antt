-- What the fields of a `KeySchedule` say: the first key_len bytes are its key, the words are those of the
-- key expansion, and the others are the keys that the rounds of encryption and of decryption take.
use Rattle.std.specs.Prelude.{◌≡◌, ℕ, ◌+◌, ◌*◌, ◌/◌, ◌%◌, ◌<◌, ◌≤◌, List, bit_xor, length, map, replicate, take}
use Rattle.krb_aes.specs.State.{at, state_of, add_round_key, inv_mix_columns}
use Rattle.krb_aes.specs.KeyExpansion.{IsKey, key_expansion, round_key}
use Rattle.krb_aes.specs.Inner.Tower.{tower_form, inv_form}

-- the block that n times ShiftRows make into this one
unfoldable pub kept : ℕ → List ℕ → List ℕ
kept n s = state_of (λ r c. at s r ((c + 3 * n * r) % 4))

-- each byte plus the next two of its column
unfoldable pub three_rows : List ℕ → List ℕ
three_rows s = state_of (λ r c. bit_xor (at s r c) (bit_xor (at s ((r + 1) % 4) c) (at s ((r + 2) % 4) c)))

-- the constant of SubBytes and a round key, in the form that encryption keeps after it has left out ShiftRows n times
abbrev pub form_of_key : ℕ → List ℕ → List ℕ
form_of_key n key = kept n (map tower_form (three_rows (add_round_key (replicate 16 0x63) key)))

abbrev pub form_round_key : List ℕ → ℕ → List ℕ
form_round_key w j = form_of_key (j % 4) (round_key w j)

-- InvMixColumns of a round key, in the form that decryption keeps
abbrev pub inv_form_of_key : ℕ → List ℕ → List ℕ
inv_form_of_key n key = kept n (map inv_form (inv_mix_columns key))

-- there are 2 modulo 4 rounds
abbrev pub inv_round_key : List ℕ → ℕ → List ℕ
inv_round_key w j = inv_form_of_key ((j + 2) % 4) (round_key w j)

pub record IsSchedule (key_len : ℕ) (words form_words inv_words : List ℕ) : Type 0 where
  pub key_size : length (take key_len words) ≡ key_len
  pub key : IsKey (take key_len words)
  pub expanded : take (4 * key_len + 112) words ≡ key_expansion (take key_len words)
  pub formed : (j : ℕ) → 1 ≤ j → j < key_len / 4 + 6 → round_key form_words j ≡ form_round_key (key_expansion (take key_len words)) j
  pub inverse : (j : ℕ) → 1 ≤ j → j < key_len / 4 + 6 → round_key inv_words j ≡ inv_round_key (key_expansion (take key_len words)) j
