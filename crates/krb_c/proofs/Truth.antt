-- Tests that say a fact.
use Rattle.std.proofs.Common.{◌≡◌, Bool, true, false}
use Rattle.std.specs.Prelude.{IsTrue, ◌↔◌}

true_is_not_false : (b : Bool) → b ≡ true → b ≡ false → ⊥
true_is_not_false b p q = cc

pub is_not : (b : Bool) (P : Type 0) → (IsTrue b ↔ P) → b ≡ false → ¬ P
is_not b P h e p = true_is_not_false b (h.1 p) e
