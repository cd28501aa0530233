-- What is written part by part, as one text.
use Rattle.std.proofs.Common.{◌≡◌, ℕ, List, ◌++◌, ap, ◌∙◌, append_assoc}

-- the new bytes are the old ones and a text
pub record Wrote (old text new : List ℕ) : Type 0 where
  pub is : new ≡ old ++ text

pub wrote : (old text new : List ℕ) → new ≡ old ++ text → Wrote old text new
wrote old text new e = record { is = e }

pub then_wrote : {old text new more last : List ℕ} → Wrote old text new → Wrote new more last → Wrote old (text ++ more) last
then_wrote {old = old} {text = text} {more = more} p q = record { is = q.is ∙ ap (λ (t : List ℕ). t ++ more) p.is ∙ append_assoc old text more }

pub wrote_same : {old text new : List ℕ} (other : List ℕ) → text ≡ other → Wrote old text new → Wrote old other new
wrote_same {old = old} other e p = record { is = p.is ∙ ap (λ (t : List ℕ). old ++ t) e }
