-- Two texts compared by gathering the bits in which their bytes differ.
use Rattle.std.proofs.Common.{◌≡◌, ℕ, ◌+◌, ◌<◌, ◌≤◌, List, [], ◌∷◌, ◌++◌, length, take, get_or, bit_xor, refl, sym, ap, ap₂, ◌∙◌, arith}
use Rattle.std.specs.Prelude.{◌↔◌}
use Rattle.std.specs.Int.RustNames.{bit_or}
use Rattle.std.proofs.lemmas.Nat.{le_or_l, le_or_r}
use Rattle.std.proofs.lemmas.List.{take_more, take_all, same_from_push}
use lib.Bits.{xor_zero_l, xor_zero_r, xor_self, xor_assoc}

-- no bit differs where the numbers are the same
same_of_xor : (a b : ℕ) → bit_xor a b ≡ 0 → a ≡ b
same_of_xor a b none = sym (xor_zero_r a) ∙ ap (bit_xor a) (sym (xor_self b)) ∙ sym (xor_assoc a b b) ∙ ap (λ (n : ℕ). bit_xor n b) none ∙ xor_zero_l b

xor_of_same : (a b : ℕ) → a ≡ b → bit_xor a b ≡ 0
xor_of_same a b same = ap (λ (n : ℕ). bit_xor n b) same ∙ xor_self b

-- up to some place, no bit differs exactly where the texts are the same
abbrev pub SameSoFar : ℕ → ℕ → List ℕ → List ℕ → Type 0
SameSoFar differing i one other = (differing ≡ 0) ↔ (take i other ≡ take i one)

pub none_differ : (one other : List ℕ) → SameSoFar 0 0 one other
none_differ one other = (λ e. refl, λ e. refl)

pub one_more : (one other : List ℕ) (i differing : ℕ) → i < length one → length one ≡ length other → SameSoFar differing i one other
    → SameSoFar (bit_or differing (bit_xor (get_or one i 0) (get_or other i 0))) (i + 1) one other
one_more one other i differing within size so_far =
    let x = get_or one i 0 in
    let y = get_or other i 0 in
    let front = take_more one i 0 within in
    let other_front = take_more other i 0 (omega (arith, size, within)) in (
      λ none.
          let before : differing ≡ 0 = omega (arith, le_or_l differing (bit_xor x y), none) in
          let here : bit_xor x y ≡ 0 = omega (arith, le_or_r differing (bit_xor x y), none) in
          other_front ∙ ap₂ (λ (t : List ℕ) (b : ℕ). t ++ b ∷ []) (so_far.0 before) (sym (same_of_xor x y here)) ∙ sym front,
      λ same.
          let parts = same_from_push (take i other) (take i one) y x (sym other_front ∙ same ∙ front) in
          ap₂ bit_or (so_far.1 parts.0) (xor_of_same x y (sym parts.1)),
    )

pub all_compared : (one other : List ℕ) (i differing : ℕ) → length one ≤ i → length one ≡ length other → SameSoFar differing i one other → (differing ≡ 0) ↔ (other ≡ one)
all_compared one other i differing past size so_far =
    let whole = take_all i one past in
    let other_whole = take_all i other (omega (arith, size, past)) in (
      λ none. sym other_whole ∙ so_far.0 none ∙ whole,
      λ same. so_far.1 (other_whole ∙ same ∙ sym whole),
    )
