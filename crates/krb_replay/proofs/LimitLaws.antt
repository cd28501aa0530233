-- Limits over limits: what a memory refuses for its own limit, and what the memory refuses that it limits.
use Rattle.std.proofs.Common.{◌≡◌, ◌⊎◌, inl, inr, ℕ, ℤ, List, ◌∷◌, refl, ap}
use Rattle.krb_replay.specs.Limit.{CountsFirst, CountsOne, IsPastAny, Limits, Reaches}
use Rattle.krb_replay.specs.Stamp.{Stamp}

module _ (Has : Stamp → Type 0) (oldest : ℤ) (stamp : Stamp) (one : Limits) (more : List Limits) (refused : ℕ) (old new : List ℕ) (Refused : Type 0) where
  -- there is room by the first limits
  pub full_within : (¬ Has stamp × Reaches Has oldest stamp one → ⊥) → (IsPastAny Has oldest stamp more → Refused × CountsOne old new)
      → IsPastAny Has oldest stamp (one ∷ more) → Refused × CountsOne (refused ∷ old) (refused ∷ new)
  full_within room refuses past = elim past.1 [
    | inl reaches ↦ absurd (room (past.0, reaches))
    | inr within ↦ (let h = refuses (past.0, within) in (h.0, inr (refl, h.1)))
  ]

  -- the first limit that is reached counts
  pub first_within : (¬ Has stamp × Reaches Has oldest stamp one → ⊥) → (IsPastAny Has oldest stamp more → CountsFirst Has oldest stamp more old new)
      → IsPastAny Has oldest stamp (one ∷ more) → CountsFirst Has oldest stamp (one ∷ more) (refused ∷ old) (refused ∷ new)
  first_within room counts past =
      let apart : ¬ Reaches Has oldest stamp one = λ reaches. room (past.0, reaches) in
      elim past.1 [
        | inl reaches ↦ absurd (apart reaches)
        | inr within ↦ inr (apart, (refl, counts (past.0, within)))
      ]

  pub counted_within : (new ≡ old) ⊎ (CountsOne old new × (Refused × IsPastAny Has oldest stamp more))
      → ((refused ∷ new) ≡ (refused ∷ old)) ⊎ (CountsOne (refused ∷ old) (refused ∷ new) × (Refused × IsPastAny Has oldest stamp (one ∷ more)))
  counted_within counted = elim counted [
    | inl e ↦ inl (ap (λ (counts : List ℕ). refused ∷ counts) e)
    | inr h ↦ inr (inr (refl, h.0), (h.1.0, (h.1.1.0, inr h.1.1.1)))
  ]
