-- The key expansion, as far as the code has come.
use Rattle.std.proofs.Common.{◌++◌, subst, ◌≡◌, ℕ, zero, suc, ◌<◌, ◌≤◌, ◌-◌, ◌+◌, ◌*◌, ◌/◌, ◌%◌, ◌&&◌, List, refl, arith, length, length-append, take, drop, ap, sym, ◌∙◌, inl, inr}
use Rattle.std.proofs.lemmas.List.{get_or-take, take-take, take-append-le, take_all, drop-take}
use Rattle.std.proofs.lemmas.Slice.{between-put_mid, take-put_mid, take-put_mid_below}
use Rattle.std.proofs.lemmas.Bool.{cases_lt}
use Rattle.std.specs.Prelude.{◌==◌, nat_lt}
use borrow.Rule.Slice.PartMut.{put_mid}
use Rattle.krb_aes.specs.Inner.Schedule.{IsSchedule, kept, form_of_key, form_round_key, inv_form_of_key, inv_round_key}
use Rattle.krb_aes.specs.KeyExpansion.{IsKey, first_words, key_expansion, key_words, round_count, next_word, sum_of_words, changed_word, word, round_key}

-- a key has whole words
pub bytes_of_words : (key : List ℕ) → IsKey key → 4 * key_words key ≡ length key
bytes_of_words key is = elim is.size [ inl e ↦ rw e refl | inr e ↦ rw e refl ]

-- 10 or 14 rounds: two more than whole fours
pub rounds_of_four : (key : List ℕ) → IsKey key → round_count key % 4 ≡ 2
rounds_of_four key is = elim is.size [ inl e ↦ rw e refl | inr e ↦ rw e refl ]

pub length-first_words : (key : List ℕ) (n : ℕ) → length (first_words key n) ≡ length key + 4 * n
unfolding first_words
length-first_words key zero = omega arith
length-first_words key (suc n) =
    let before = length-first_words key n in
    omega (arith, before, length-append (first_words key n) (next_word (key_words key) (key_words key + n) (first_words key n)))

-- the key stands in front
pub take-first_words : (key : List ℕ) (n : ℕ) → take (length key) (first_words key n) ≡ key
unfolding first_words
take-first_words key zero = take_all (length key) key (omega arith)
take-first_words key (suc n) =
    take-append-le (length key) (first_words key n) _ (omega (arith, length-first_words key n)) ∙ take-first_words key n

-- a word that stands in the front part of a list
word-take : (w : List ℕ) (m j : ℕ) → 4 * j + 4 ≤ m → word (take m w) j ≡ word w j
word-take w m j within =
    let at0 : 4 * j + 0 < m = omega arith in
    let at1 : 4 * j + 1 < m = omega arith in
    let at2 : 4 * j + 2 < m = omega arith in
    let at3 : 4 * j + 3 < m = omega arith in
    rw (
      get_or-take m w (4 * j + 0) 0 at0,
      get_or-take m w (4 * j + 1) 0 at1,
      get_or-take m w (4 * j + 2) 0 at2,
      get_or-take m w (4 * j + 3) 0 at3,
    ) refl

-- the next word needs those before it alone
next_word-take : (nk i : ℕ) (w : List ℕ) → 1 ≤ nk → nk ≤ i → next_word nk i (take (4 * i) w) ≡ next_word nk i w
next_word-take nk i w some after =
    let g : List ℕ → List ℕ → List ℕ =
    λ p q. sum_of_words p (changed_word (i % nk == 0) (nat_lt 6 nk && (i % nk == 4)) (i / nk) q) in
    ap (λ p. g p (word (take (4 * i) w) (i - 1))) (word-take w (4 * i) (i - nk) (omega arith))
    ∙ ap (g (word w (i - nk))) (word-take w (4 * i) (i - 1) (omega arith))

-- the words before the loop
pub first_words_none : (key words : List ℕ) → IsKey key → take (length key) words ≡ key →
    take (4 * key_words key) words ≡ first_words key (key_words key - key_words key)
unfolding first_words
first_words_none key words is front =
    let none : key_words key - key_words key ≡ 0 = omega arith in
    rw (none, bytes_of_words key is) front

-- a word more
pub first_words_more : (key words next : List ℕ) (i : ℕ) → IsKey key → key_words key ≤ i → 4 * i + 4 ≤ length words →
    take (4 * i) words ≡ first_words key (i - key_words key) → next ≡ next_word (key_words key) i words →
    take (4 * (i + 1)) (put_mid (4 * i) (4 * i + 4 - 4 * i) words next) ≡ first_words key (i + 1 - key_words key)
unfolding first_words
first_words_more key words next i is after room so_far is_next =
    let some : 1 ≤ key_words key = omega (arith, bytes_of_words key is, is.size) in
    let four : length next ≡ 4 = ap length is_next in
    let one_more : i + 1 - key_words key ≡ suc (i - key_words key) = omega arith in
    let place : key_words key + (i - key_words key) ≡ i = omega arith in
    let taken = take-put_mid (4 * i) (4 * i + 4 - 4 * i) words next (4 * (i + 1)) (omega arith) (omega arith) in
    let last : next ≡ next_word (key_words key) i (first_words key (i - key_words key)) =
    is_next
    ∙ sym (next_word-take (key_words key) i words some after)
    ∙ ap (next_word (key_words key) i) so_far in
    rw (one_more, place, taken, so_far) (ap (λ t. first_words key (i - key_words key) ++ t) last)

-- all words
pub key_expansion_all : (key words : List ℕ) (i : ℕ) → IsKey key → i ≡ 4 * (key_words key + 7) →
    take (4 * i) words ≡ first_words key (i - key_words key) →
    take (4 * length key + 112) words ≡ key_expansion key
unfolding key_expansion
key_expansion_all key words i is last so_far =
    let bytes : 4 * length key + 112 ≡ 4 * i = omega (arith, bytes_of_words key is) in
    let words_more : 4 * (round_count key + 1) - key_words key ≡ i - key_words key = omega arith in
    rw (bytes, words_more) so_far

pub key_of_expansion : (key words : List ℕ) → take (4 * length key + 112) words ≡ key_expansion key →
    take (length key) words ≡ key
unfolding key_expansion
key_of_expansion key words all =
    sym (take-take (length key) (4 * length key + 112) words (omega arith))
    ∙ ap (take (length key)) all ∙ take-first_words key _

-- a round key in the front part of a list
pub round_key-take : (words : List ℕ) (n j : ℕ) → 16 * j + 16 ≤ n → round_key (take n words) j ≡ round_key words j
round_key-take words n j within =
    let parts : 16 * j + (n - 16 * j) ≡ n = omega arith in
    let rest = drop-take (16 * j) (n - 16 * j) words in
    (rw parts at (ap (take 16) rest)) ∙ take-take 16 (n - 16 * j) (drop (16 * j) words) (omega arith)

pub schedule_of : (n : ℕ) (key words form_words inv_words : List ℕ) → length key ≡ n → IsKey key → take (length key) words ≡ key →
    take (4 * length key + 112) words ≡ key_expansion key →
    ((j : ℕ) → 1 ≤ j → j < round_count key → round_key form_words j ≡ form_round_key words j)
    → ((j : ℕ) → 1 ≤ j → j < round_count key → round_key inv_words j ≡ inv_round_key words j) → IsSchedule n words form_words inv_words
schedule_of n key words form_words inv_words size is front all formed inverse =
    let P : List ℕ → Type 0 = λ k. IsKey k in
    let Q : ℕ → Type 0 = λ m. IsSchedule m words form_words inv_words in
    let same : (j : ℕ) → j < round_count key → round_key words j ≡ round_key (key_expansion (take (length key) words)) j = λ j below.
    sym (round_key-take words (4 * length key + 112) j (omega (arith, bytes_of_words key is)))
    ∙ ap (λ w. round_key w j) (all ∙ ap key_expansion (sym front)) in
    subst Q size record {
      key_size = ap length front;
      key = subst P (sym front) is;
      expanded = all ∙ ap key_expansion (sym front);
      formed = λ j some below. formed j some below ∙ ap (form_of_key (j % 4)) (same j below);
      inverse = λ j some below. inverse j some below ∙ ap (inv_form_of_key ((j + 2) % 4)) (same j below);
    }

-- a round key put in its place, and those before it
pub put_round_key : (keys key : List ℕ) (at : ℕ) → 16 * at + 16 ≤ length keys → length key ≡ 16 →
    round_key (put_mid (16 * at) (16 * at + 16 - 16 * at) keys key) at ≡ key
put_round_key keys key at room size =
    let sixteen : 16 * at + 16 - 16 * at ≡ 16 = omega arith in
    let here = between-put_mid (16 * at) (16 * at + 16 - 16 * at) keys key (16 * at + 16) (omega arith) (omega (arith, size)) in
    let P : ℕ → Type 0 = λ n. take n (drop (16 * at) (put_mid (16 * at) (16 * at + 16 - 16 * at) keys key)) ≡ key in
    subst P sixteen here

pub before_round_key : (keys key : List ℕ) (at j : ℕ) → 16 * at + 16 ≤ length keys → j < at →
    round_key (put_mid (16 * at) (16 * at + 16 - 16 * at) keys key) j ≡ round_key keys j
before_round_key keys key at j room before =
    sym (round_key-take (put_mid (16 * at) (16 * at + 16 - 16 * at) keys key) (16 * at) j (omega arith))
    ∙ ap (λ w. round_key w j)
    (take-put_mid_below (16 * at) (16 * at + 16 - 16 * at) keys key (16 * at) (omega arith) (omega arith))
    ∙ round_key-take keys (16 * at) j (omega arith)

-- the keys prepared so far, and the next one put in its place
pub put_next : (of : ℕ → List ℕ) (keys key : List ℕ) (at : ℕ) → 16 * at + 16 ≤ length keys → key ≡ of at → length (of at) ≡ 16 →
    ((j : ℕ) → 1 ≤ j → j < at → round_key keys j ≡ of j) → (j : ℕ) → 1 ≤ j → j < at + 1 →
    round_key (put_mid (16 * at) (16 * at + 16 - 16 * at) keys key) j ≡ of j
put_next of keys key at room new size before j some below = elim (cases_lt j at) [
  | inl earlier ↦ before_round_key keys _ at j room earlier ∙ before j some earlier
  | inr not_earlier ↦
      let here : at ≡ j = omega arith in
      subst (λ n. round_key (put_mid (16 * at) (16 * at + 16 - 16 * at) keys key) n ≡ of n) here
      (put_round_key keys key at room (ap length new ∙ size) ∙ new)
]

pub length-form_round_key : (w : List ℕ) (j : ℕ) → length (form_round_key w j) ≡ 16
unfolding kept
length-form_round_key w j = refl

pub length-inv_round_key : (w : List ℕ) (j : ℕ) → length (inv_round_key w j) ≡ 16
unfolding kept
length-inv_round_key w j = refl
