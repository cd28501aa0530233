-- KEYEXPANSION (FIPS 197, section 5.2). A key is the list of its 16 or 32 bytes. Words of four
-- bytes follow one another in a list of bytes.
use Rattle.std.specs.Prelude.{All, ◌≡◌, ◌⊎◌, ℕ, zero, suc, ◌+◌, ◌-◌, ◌*◌, ◌/◌, ◌%◌, ◌<◌, ◌==◌, nat_lt, ◌&&◌, Bool, true, false, List, [], ◌∷◌, ◌++◌, length, take, drop, slice_index, bit_xor}
use Rattle.krb_aes.specs.Field.{product}
use Rattle.krb_aes.specs.SBox.{s_box}

-- a key of 128 or 256 bits
pub record IsKey (key : List ℕ) : Type 0 where
  pub size : (length key ≡ 16) ⊎ (length key ≡ 32)
  pub bytes : All (λ byte. byte < 256) key

-- Nk, the number of words of the key, and Nr, the number of rounds: 4 and 10, or 8 and 14 (section
-- 5)
abbrev pub key_words : List ℕ → ℕ
key_words key = length key / 4

abbrev pub round_count : List ℕ → ℕ
round_count key = key_words key + 6

-- the word with the bytes f 0 to f 3
abbrev pub word_of : (ℕ → ℕ) → List ℕ
word_of f = f 0 ∷ f 1 ∷ f 2 ∷ f 3 ∷ []

-- w[i], in the list of the words' bytes
abbrev pub word : List ℕ → ℕ → List ℕ
word w i = word_of (λ r. slice_index w (4 * i + r))

-- ROTWORD and SUBWORD (5.2)
abbrev pub rot_word : List ℕ → List ℕ
rot_word t = word_of (λ r. slice_index t ((r + 1) % 4))

abbrev pub sub_word : List ℕ → List ℕ
sub_word t = word_of (λ r. s_box (slice_index t r))

-- the sum of two words
abbrev pub sum_of_words : List ℕ → List ℕ → List ℕ
sum_of_words a b = word_of (λ r. bit_xor (slice_index a r) (slice_index b r))

-- x^n in the field of the bytes
unfoldable pub x_to_the : ℕ → ℕ
x_to_the zero = 1
x_to_the (suc n) = product 0x02 (x_to_the n)

-- Rcon[j]: x^(j - 1) and three zeros (5.2)
abbrev pub rcon : ℕ → List ℕ
rcon j = x_to_the (j - 1) ∷ 0 ∷ 0 ∷ 0 ∷ []

-- what is added to w[i - Nk], from the word t = w[i - 1]: one case if Nk divides i, one if Nk is
-- above 6 and i is 4 above a multiple of it, and one for all other i (5.2, algorithm 2)
abbrev pub changed_word : Bool → Bool → ℕ → List ℕ → List ℕ
changed_word true fourth j t = sum_of_words (sub_word (rot_word t)) (rcon j)
changed_word false true j t = sub_word t
changed_word false false j t = t

-- w[i], from the words before it (5.2, algorithm 2)
abbrev pub next_word : ℕ → ℕ → List ℕ → List ℕ
next_word nk i w =
    sum_of_words (word w (i - nk))
    (changed_word (i % nk == 0) (nat_lt 6 nk && (i % nk == 4)) (i / nk) (word w (i - 1)))

abbrev pub with_next_word : ℕ → ℕ → List ℕ → List ℕ
with_next_word nk i w = w ++ next_word nk i w

-- the first Nk + n words: the key, and n more
unfoldable pub first_words : List ℕ → ℕ → List ℕ
first_words key zero = key
first_words key (suc n) = with_next_word (key_words key) (key_words key + n) (first_words key n)

-- all 4 * (Nr + 1) words
unfoldable pub key_expansion : List ℕ → List ℕ
key_expansion key = first_words key (4 * (round_count key + 1) - key_words key)

-- round key j: the words w[4 * j] to w[4 * j + 3] of the expanded key w
abbrev pub round_key : List ℕ → ℕ → List ℕ
round_key w j = take 16 (drop (16 * j) w)
