-- What holds of each number below a bound, by one test that computes.
use Rattle.std.proofs.Common.{◌≡◌, ℕ, zero, suc, ◌<◌, ◌&&◌, Bool, true, eqb, subst, sym, arith, inl, inr, ◌⊎◌}
use Rattle.std.proofs.lemmas.Bool.{and_parts, eqb-true}

abbrev pub same_on : (ℕ → ℕ) → (ℕ → ℕ) → ℕ → Bool
same_on f g zero = true
same_on f g (suc n) = eqb (f n) (g n) && same_on f g n

below_or_last : (x n : ℕ) → x < suc n → (x < n) ⊎ (x ≡ n)
below_or_last x n lt = grind arith

pub same_below : (f g : ℕ → ℕ) (n : ℕ) → same_on f g n ≡ true → (x : ℕ) → x < n → f x ≡ g x
same_below f g zero ok x lt = absurd (omega arith)
same_below f g (suc n) ok x lt =
    let parts = and_parts (eqb (f n) (g n)) (same_on f g n) ok in
    let P : ℕ → Type 0 = λ m. f m ≡ g m in
    elim (below_or_last x n lt) [
      | inl below ↦ same_below f g n parts.1 x below
      | inr last ↦ subst P (sym last) (eqb-true (f n) (g n) parts.0)
    ]
