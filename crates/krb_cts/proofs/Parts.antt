-- A text in parts of 16 bytes.
use Rattle.std.proofs.Common.{All, ◌≡◌, ℕ, zero, suc, ◌+◌, ◌*◌, ◌<◌, List, ◌++◌, length, take, drop, refl, sym, ap, ap₂, ◌∙◌, append_assoc, arith, inl, inr}
use Rattle.std.proofs.lemmas.Bool.{cases_lt}
use Rattle.std.proofs.lemmas.List.{take_at, drop_at}
use Rattle.std.proofs.lemmas.List.Elements.{All-nil, All-append}
use Rattle.std.proofs.Math.Seq.{take-add}
use Rattle.krb_cts.specs.Stealing.{joined}
use Rattle.krb_cts.proofs.Blocks.{length-joined}

-- one of the blocks that stand one after another at the beginning of a text
pub joined-block : (block : ℕ → List ℕ) (n : ℕ) (rest : List ℕ) → ((i : ℕ) → i < n → length (block (suc i)) ≡ 16) → (i : ℕ) → i < n
    → take 16 (drop (16 * i) (joined block n ++ rest)) ≡ block (suc i)
unfolding joined
joined-block block zero rest whole i lt = absurd (omega arith)
joined-block block (suc n) rest whole i lt =
    let apart : (joined block n ++ block (suc n)) ++ rest ≡ joined block n ++ (block (suc n) ++ rest) = append_assoc (joined block n) (block (suc n)) rest in
    elim (cases_lt i n) [
      | inl less ↦
          ap (λ (t : List ℕ). take 16 (drop (16 * i) t)) apart
          ∙ joined-block block n (block (suc n) ++ rest) (λ k below. whole k (omega arith)) i less
      | inr not_less ↦
          let same : i ≡ n = omega arith in
          let front : length (joined block n) ≡ 16 * n = length-joined block n (λ k below. whole k (omega arith)) in
          ap₂ (λ (m : ℕ) (t : List ℕ). take 16 (drop (16 * m) t)) same apart
          ∙ ap (λ (t : List ℕ). take 16 t) (drop_at (joined block n) (block (suc n) ++ rest) (16 * n) front)
          ∙ take_at (block (suc n)) rest 16 (whole n (omega arith))
          ∙ ap (λ (m : ℕ). block (suc m)) (sym same)
    ]

-- the blocks of a text, joined, are its beginning
pub joined-cut : (block : ℕ → List ℕ) (text : List ℕ) (n : ℕ) → ((i : ℕ) → i < n → block (suc i) ≡ take 16 (drop (16 * i) text)) → joined block n ≡ take (16 * n) text
unfolding joined
joined-cut block text zero is = refl
joined-cut block text (suc n) is =
    let next : 16 * suc n ≡ 16 * n + 16 = omega arith in
    ap₂ (λ (a b : List ℕ). a ++ b) (joined-cut block text n (λ i lt. is i (omega arith))) (is n (omega arith))
    ∙ sym (take-add (16 * n) 16 text)
    ∙ ap (λ (k : ℕ). take k text) (sym next)

pub bytes-joined : (block : ℕ → List ℕ) (n : ℕ) → ((i : ℕ) → i < n → All (λ byte. byte < 256) (block (suc i))) → All (λ byte. byte < 256) (joined block n)
unfolding joined
bytes-joined block zero bytes = All-nil (λ byte. byte < 256)
bytes-joined block (suc n) bytes =
    All-append (λ byte. byte < 256) (joined block n) (block (suc n)) (bytes-joined block n (λ i lt. bytes i (omega arith))) (bytes n (omega arith))
