-- Which lists hold bytes, and which states.
use Rattle.std.proofs.Common.{Fits, w8, ◌⊎◌, ◌≡◌, ℕ, zero, suc, ◌+◌, ◌-◌, ◌*◌, ◌/◌, ◌%◌, ◌<◌, Bool, true, false, List, [], ◌∷◌, ◌&&◌, length, get_or, drop, All, refl, ap, arith, lit<, inl, inr}
use Rattle.std.specs.Prelude.{◌==◌, nat_lt}
use Rattle.std.proofs.lemmas.Bool.{cases_lt}
use Rattle.std.proofs.lemmas.List.{get_or_past}
use Rattle.std.proofs.lemmas.List.Elements.{All-from_get_or, All-from_recursion, All-append, All-take, All-drop, All-get_or}
use Rattle.std.proofs.lemmas.Nat.{xor_of_8}
use Rattle.krb_aes.specs.Field.{carryless, remainder, product, inverse, number_with}
use Rattle.krb_aes.specs.SBox.{affine, s_box, inv_s_box}
use Rattle.krb_aes.specs.State.{at, state_of, row_times_column}
use Rattle.krb_aes.specs.KeyExpansion.{IsKey, word_of, word, rot_word, sub_word, sum_of_words, x_to_the, rcon, changed_word, first_words, key_expansion, key_words, round_key}
use Rattle.krb_aes.specs.Cipher.{IsBlock}
use Rattle.krb_aes.proofs.ByteTests.{same_on, same_below}

abbrev pub IsByte : ℕ → Type 0
IsByte b = b < 256

abbrev pub AreBytes : List ℕ → Type 0
AreBytes s = All (λ byte. byte < 256) s

-- an entry of a matrix is below 16, also past the end of its row, where it reads 0
pub small_place : (s : List ℕ) (i : ℕ) → All (λ x. x < 16) s → get_or s i 0 < 16
small_place s i small =
    elim (cases_lt i (length s)) [
      | inl within ↦ All-get_or (λ x. x < 16) s i 0 within small
      | inr past ↦ rw (get_or_past s i 0 past) (lit< tt)
    ]

-- a byte at each place, also past the end
pub place : (s : List ℕ) (i : ℕ) → AreBytes s → get_or s i 0 < 256
place s i bytes =
    elim (cases_lt i (length s)) [
      | inl within ↦ All-get_or (λ byte. byte < 256) s i 0 within bytes
      | inr past ↦ rw (get_or_past s i 0 past) (lit< tt)
    ]

below_256 : (n : ℕ) → n / 256 ≡ 0 → n < 256
below_256 n e = omega arith

pub byte_tests : (f : ℕ → ℕ) → same_on (λ x. f x / 256) (λ _. 0) 256 ≡ true → (x : ℕ) → x < 256 → f x < 256
byte_tests f ok x x_byte = below_256 (f x) (same_below (λ y. f y / 256) (λ _. 0) 256 ok x x_byte)

pub s_box_byte : (x : ℕ) → x < 256 → s_box x < 256
unfolding carryless remainder product inverse number_with affine s_box
s_box_byte = byte_tests s_box refl

pub inv_s_box_byte : (x : ℕ) → x < 256 → inv_s_box x < 256
unfolding carryless remainder product inverse number_with affine s_box inv_s_box
inv_s_box_byte = byte_tests inv_s_box refl

-- the entries of the two matrices are below 16
small_product_byte : (n : ℕ) → n < 4096 → product (n / 256) (n % 256) < 256
unfolding carryless remainder product
small_product_byte n below =
    below_256 _ (same_below (λ m. product (m / 256) (m % 256) / 256) (λ _. 0) 4096 refl n below)

pub product_byte : (a b : ℕ) → a < 16 → b < 256 → product a b < 256
product_byte a b a_small b_byte =
    let n = a * 256 + b in
    let first : n / 256 ≡ a = omega arith in
    let second : n % 256 ≡ b = omega arith in
    (rw (first, second) at (small_product_byte n (omega arith)))

pub row_byte : (m : ℕ → ℕ → ℕ) (r : ℕ) (column : ℕ → ℕ) → ((k : ℕ) → m r k < 16) → ((k : ℕ) → column k < 256) →
    row_times_column m r column < 256
row_byte m r column small bytes =
    let p : (k : ℕ) → product (m r k) (column k) < 256 = λ k. product_byte (m r k) (column k) (small k) (bytes k) in
    xor_of_8 _ _ (xor_of_8 _ _ (xor_of_8 _ _ (p 0) (p 1)) (p 2)) (p 3)

-- ---- states

pub IsBlock-state_of : (f : ℕ → ℕ → ℕ) → ((r c : ℕ) → f r c < 256) → IsBlock (state_of f)
IsBlock-state_of f h = record {
  size = refl;
  bytes = All-from_recursion (λ byte. byte < 256) (state_of f) (
    h 0 0,
    (
      h 1 0,
      (
        h 2 0,
        (
          h 3 0,
          (
            h 0 1,
            (
              h 1 1,
              (
                h 2 1,
                (
                  h 3 1,
                  (h 0 2, (h 1 2, (h 2 2, (h 3 2, (h 0 3, (h 1 3, (h 2 3, (h 3 3, tt)))))))),
                ),
              ),
            ),
          ),
        ),
      ),
    ),
  );
}

abbrev listed : (ℕ → ℕ) → ℕ → List ℕ
listed f zero = []
listed f (suc n) = f 0 ∷ listed (λ i. f (suc i)) n

listed_places : (s : List ℕ) → listed (λ i. get_or s i 0) (length s) ≡ s
listed_places [] = refl
listed_places (x ∷ xs) = ap (λ t. x ∷ t) (listed_places xs)

-- a state is its 16 bytes
pub state_of-at : (s : List ℕ) → length s ≡ 16 → state_of (at s) ≡ s
state_of-at s size = rw size at (listed_places s)

-- four blocks are those at their places
pub four_listed : (blocks : List (List ℕ)) → length blocks ≡ 4 →
    get_or blocks 0 [] ∷ get_or blocks 1 [] ∷ get_or blocks 2 [] ∷ get_or blocks 3 [] ∷ [] ≡ blocks
four_listed (a ∷ b ∷ c ∷ d ∷ []) size = refl
four_listed (a ∷ b ∷ c ∷ d ∷ e ∷ more) size = absurd (omega arith)
four_listed (a ∷ b ∷ c ∷ []) size = absurd (omega arith)
four_listed (a ∷ b ∷ []) size = absurd (omega arith)
four_listed (a ∷ []) size = absurd (omega arith)
four_listed [] size = absurd (omega arith)

-- states with the same bytes
pub same_state : (f g : ℕ → ℕ → ℕ) → ((r c : ℕ) → r < 4 → f r c ≡ g r c) → state_of f ≡ state_of g
same_state f g e = λ i.
    e 0 0 (lit< tt) i ∷ e 1 0 (lit< tt) i ∷ e 2 0 (lit< tt) i ∷ e 3 0 (lit< tt) i ∷
    e 0 1 (lit< tt) i ∷ e 1 1 (lit< tt) i ∷ e 2 1 (lit< tt) i ∷ e 3 1 (lit< tt) i ∷
    e 0 2 (lit< tt) i ∷ e 1 2 (lit< tt) i ∷ e 2 2 (lit< tt) i ∷ e 3 2 (lit< tt) i ∷
    e 0 3 (lit< tt) i ∷ e 1 3 (lit< tt) i ∷ e 2 3 (lit< tt) i ∷ e 3 3 (lit< tt) i ∷ []

-- ---- the expanded key

word_of_bytes : (f : ℕ → ℕ) → ((r : ℕ) → f r < 256) → AreBytes (word_of f)
word_of_bytes f h =
    All-from_recursion (λ byte. byte < 256) (word_of f) (h 0, (h 1, (h 2, (h 3, tt))))

x_to_the_byte : (n : ℕ) → x_to_the n < 256
unfolding x_to_the
x_to_the_byte zero = lit< tt
x_to_the_byte (suc n) = product_byte 2 (x_to_the n) (lit< tt) (x_to_the_byte n)

word_bytes : (w : List ℕ) (i : ℕ) → AreBytes w → AreBytes (word w i)
word_bytes w i bytes = word_of_bytes _ (λ r. place w (4 * i + r) bytes)

sum_bytes : (a b : List ℕ) → AreBytes a → AreBytes b → AreBytes (sum_of_words a b)
sum_bytes a b a_bytes b_bytes = word_of_bytes _ (λ r. xor_of_8 _ _ (place a r a_bytes) (place b r b_bytes))

sub_word_bytes : (t : List ℕ) → AreBytes t → AreBytes (sub_word t)
sub_word_bytes t bytes = word_of_bytes _ (λ r. s_box_byte (get_or t r 0) (place t r bytes))

rcon_bytes : (j : ℕ) → AreBytes (rcon j)
rcon_bytes j =
    All-from_recursion (λ byte. byte < 256) (rcon j)
    (x_to_the_byte (j - 1), (lit< tt, (lit< tt, (lit< tt, tt))))

changed_word_bytes : (first middle : Bool) (j : ℕ) (t : List ℕ) → AreBytes t → AreBytes (changed_word first middle j t)
changed_word_bytes true middle j t bytes =
    sum_bytes (sub_word (rot_word t)) (rcon j) (sub_word_bytes (rot_word t) (word_of_bytes _ (λ r. place t ((r + 1) % 4) bytes))) (rcon_bytes j)
changed_word_bytes false true j t bytes = sub_word_bytes t bytes
changed_word_bytes false false j t bytes = bytes

first_words_bytes : (key : List ℕ) (n : ℕ) → AreBytes key → AreBytes (first_words key n)
unfolding first_words
first_words_bytes key zero bytes = bytes
first_words_bytes key (suc n) bytes =
    let w = first_words key n in
    let nk = key_words key in
    let i = nk + n in
    let before : AreBytes w = first_words_bytes key n bytes in
    let last = word w (i - 1) in
    let change = changed_word (i % nk == 0) (nat_lt 6 nk && (i % nk == 4)) (i / nk) last in
    let change_bytes : AreBytes change = changed_word_bytes _ _ (i / nk) last (word_bytes w (i - 1) before) in
    All-append (λ byte. byte < 256) w _ before
    (sum_bytes (word w (i - nk)) change (word_bytes w (i - nk) before) change_bytes)

pub round_key_bytes : (key : List ℕ) (j : ℕ) → AreBytes key → AreBytes (round_key (key_expansion key) j)
unfolding key_expansion
round_key_bytes key j bytes =
    let w = key_expansion key in
    let all : AreBytes w = first_words_bytes key (4 * (key_words key + 6 + 1) - key_words key) bytes in
    All-take (λ byte. byte < 256) 16 (drop (16 * j) w) (All-drop (λ byte. byte < 256) (16 * j) w all)

-- what a program's array of 16 bytes is
pub block_of_array : (s : List ℕ) → length s ≡ 16 → ((i : ℕ) → get_or s i 0 < 256) → IsBlock s
block_of_array s size fits = record {
  size = size;
  bytes = All-from_get_or (λ byte. byte < 256) s 0 (λ i within. fits i);
}

pub key_of_array : (s : List ℕ) → (length s ≡ 16) ⊎ (length s ≡ 32) → ((i : ℕ) → get_or s i 0 < 256) → IsKey s
key_of_array s size fits = record {
  size = size;
  bytes = All-from_get_or (λ byte. byte < 256) s 0 (λ i within. fits i);
}

pub bytes_of_slice : (s : List ℕ) → ((i : ℕ) → Fits w8 (get_or s i 0)) → AreBytes s
bytes_of_slice s fits = All-from_get_or (λ byte. byte < 256) s 0 (λ i within. (fits i).fits)
