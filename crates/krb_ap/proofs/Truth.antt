-- Tests that say a fact.
use Rattle.std.proofs.Common.{◌≡◌, Bool, true, false, ap, refl, subst, sym, ◌⊎◌, inl, inr}
use Rattle.std.specs.Prelude.{Result, Ok, Err, IfErr, IfOk, IsErr, IsErrAnd, IsOkAnd, IsTrue, MatchResult, ◌↔◌}

pub is_so : (b : Bool) (P : Type 0) → (IsTrue b ↔ P) → b ≡ true → P
is_so b P h e = h.0 e

true_is_not_false : (b : Bool) → b ≡ true → b ≡ false → ⊥
true_is_not_false b p q = cc

pub is_not : (b : Bool) (P : Type 0) → (IsTrue b ↔ P) → b ≡ false → ¬ P
is_not b P h e p = true_is_not_false b (h.1 p) e

-- what is decided has a truth value
pub truth_of : {P : Type 0} → P ⊎ ¬ P → (b : Bool) × (IsTrue b ↔ P)
truth_of (inl p) = (true, (λ e. p, λ q. refl))
truth_of (inr none) = (false, (λ e. absurd cc, λ q. absurd (none q)))

-- truth values of one statement are one
pub same_truth : (a b : Bool) (P : Type 0) → (IsTrue a ↔ P) → (IsTrue b ↔ P) → a ≡ b
same_truth true b P h i = sym (i.1 (h.0 refl))
same_truth false true P h i = h.1 (i.0 refl)
same_truth false false P h i = refl

-- what holds, holds of each success
pub if_ok : {T E P : Type 0} (r : Result T E) → P → IfOk r (λ _. P)
if_ok (Ok x) p = p
if_ok (Err e) p = tt

-- what a `?` returns
pub err_is : {T E : Type 0} {e : E} (r : Result T E) → IsErr r × IsErrAnd r (λ y. y ≡ e) → r ≡ Err e
err_is (Ok x) h = absurd h.1
err_is (Err y) h = ap Err h.1

-- with another error for each error, a success stays as it is
pub ok_as : {T D E : Type 0} (Q : D → E → Type 0) (P : T → Type 0) (r : Result T D) (s : Result T E) → MatchResult r (λ x. s ≡ Ok x) (λ e. IsErrAnd s (Q e))
    → IfOk r P → IfOk s P
ok_as Q P (Ok x) s same p = subst (λ (t : Result _ _). IfOk t P) (sym same) p
ok_as Q P (Err e) (Err d) same p = tt
ok_as Q P (Err e) (Ok x) same p = absurd same

-- and what holds of an error holds of the other
pub err_as : {T D E : Type 0} (Q : D → E → Type 0) (P : Type 0) (r : Result T D) (s : Result T E) → MatchResult r (λ x. s ≡ Ok x) (λ e. IsErrAnd s (Q e))
    → IfErr r (λ _. P) → IfErr s (λ _. P)
err_as Q P (Ok x) s same p = subst (λ (t : Result _ _). IfErr t (λ _. P)) (sym same) tt
err_as Q P (Err e) (Err d) same p = p
err_as Q P (Err e) (Ok x) same p = absurd same

-- what an error rules out
pub no_value : {T E V : Type 0} (M : V → Type 0) (F : V → T → Type 0) (r : Result T E) → ((v : V) → M v → IsOkAnd r (F v)) → IfErr r (λ _. (v : V) → ¬ M v)
no_value M F (Ok x) h = tt
no_value M F (Err e) h = λ v m. h v m
