-- Windows over the numbers that were taken.
use Rattle.std.proofs.Common.{◌≡◌, ◌⊎◌, inl, inr, ◌∙◌, ◌≤◌, ◌<◌, ◌+◌, ◌%◌, ℕ, zero, suc, List, [], ◌∷◌, length, Some, None, refl, sym, ap, subst, arith, slice_set, slice_index_or}
use Rattle.std.specs.Prelude.{Contains, max}
use Rattle.std.proofs.lemmas.Bool.{cases_lt, cases_eq}
use Rattle.std.proofs.lemmas.List.{get_or-set_same, get_or-set_other}
use Rattle.krb_context.specs.Sequence.{IsOrder, next_of, sent_numbers}
use Rattle.krb_context.specs.declared.order.Order.{Order}
use Rattle.krb_context.specs.declared.order.Order.TheVariants.{Next, AfterGap, Late, Repeat, Old}
use Rattle.krb_context.specs.Inner.Ring.{Ring, StandsFor}

pub some_is : (a b : ℕ) → Some a ≡ Some b → a ≡ b
some_is a b is = cc

-- an element of a list with one more in front
cases_of : (x : ℕ) (xs : List ℕ) (n : ℕ) → Contains (x ∷ xs) n → (x ≡ n) ⊎ Contains xs n
cases_of x xs n (zero, within, at) = inl at
cases_of x xs n (suc k, within, at) = inr (k, omega (arith, within), at)

pub in_front : (x : ℕ) (xs : List ℕ) → Contains (x ∷ xs) x
in_front x xs = (0, omega arith, refl)

pub after_one : (x : ℕ) (xs : List ℕ) (n : ℕ) → Contains xs n → Contains (x ∷ xs) n
after_one x xs n it = (suc it.0, omega (arith, it.1), it.2)

not_in_front : (x : ℕ) (xs : List ℕ) (n : ℕ) → (x ≡ n → ⊥) → Contains (x ∷ xs) n → Contains xs n
not_in_front x xs n other it =
    elim (cases_of x xs n it) [
      | inl is ↦ absurd (other is)
      | inr there ↦ there
    ]

-- the number that is awaited isn't before the first
from_the_first : (first : ℕ) (taken : List ℕ) → first ≤ next_of first taken
from_the_first first [] = omega arith
from_the_first first (x ∷ taken) = omega (arith, from_the_first first taken)

-- what was taken is before what is awaited
below : (first : ℕ) (taken : List ℕ) (n : ℕ) → Contains taken n → n < next_of first taken
below first [] n it = absurd (omega (arith, it.1))
below first (x ∷ taken) n it =
    elim (cases_of x taken n it) [
      | inl is ↦ omega (arith, is)
      | inr there ↦ omega (arith, below first taken n there)
    ]

-- two numbers of one place, less than 64 apart
same_place : (a b : ℕ) → a < b + 64 → b < a + 64 → a % 64 ≡ b % 64 → a ≡ b
same_place a b above within same = omega (arith, same)

-- a number that isn't too old is put in its place
pub put : (w : Ring) (first number : ℕ) (taken : List ℕ) → length w.slots ≡ 64 → first ≤ number → w.next ≤ number + 64 → StandsFor w first taken
    → StandsFor (record { first = w.first; next = max w.next (number + 1); slots = slice_set w.slots (number % 64) (Some number) }) first (number ∷ taken)
put w first number taken size from near s = record {
  first_is = s.first_is;
  next_is = omega (arith, s.next_is);
  only = λ n it.
      elim (cases_eq (number % 64) (n % 64)) [
        | inl same ↦ subst (λ (m : ℕ). Contains (number ∷ taken) m)
            (some_is number n (sym (get_or-set_same w.slots (number % 64) (Some number) None (omega (arith, size)))
            ∙ ap (λ (k : ℕ). slice_index_or (slice_set w.slots (number % 64) (Some number)) k None) same ∙ it))
            (in_front number taken)
        | inr other ↦ after_one number taken n
            (s.only n (sym (get_or-set_other w.slots (number % 64) (n % 64) (Some number) None (λ is. other (sym is))) ∙ it))
      ];
  all = λ n recent it.
      elim (cases_eq number n) [
        | inl same ↦ subst (λ (m : ℕ). slice_index_or (slice_set w.slots (number % 64) (Some number)) (m % 64) None ≡ Some m) same
            (get_or-set_same w.slots (number % 64) (Some number) None (omega (arith, size)))
        | inr other ↦
            let there : Contains taken n = not_in_front number taken n other it in
            let before : n < w.next = subst (λ (m : ℕ). n < m) (sym s.next_is) (below first taken n there) in
            let apart : n % 64 ≡ number % 64 → ⊥ = λ same. other (same_place number n (omega (arith, recent.near)) (omega (arith, before, near)) (sym same)) in
            get_or-set_other w.slots (number % 64) (n % 64) (Some number) None apart
            ∙ s.all n (record { from_first = recent.from_first; before = before; near = omega (arith, recent.near) }) there
      ];
}

next_same : (w : Ring) (first number : ℕ) (taken : List ℕ) → StandsFor w first taken → ((w.first ≤ number) × (w.next ≤ number + 64) → ⊥)
    → w.next ≡ next_of first (number ∷ taken)
next_same w first number taken s far =
    elim (cases_lt number (w.next)) [
      | inl less ↦ omega (arith, s.next_is, less)
      | inr more ↦ absurd (far (omega (arith, s.next_is, s.first_is, more, from_the_first first taken), omega (arith, more)))
    ]

-- one that is too old changes nothing
pub too_old : (w : Ring) (first number : ℕ) (taken : List ℕ) → StandsFor w first taken → ((w.first ≤ number) × (w.next ≤ number + 64) → ⊥)
    → StandsFor w first (number ∷ taken)
too_old w first number taken s far = record {
  first_is = s.first_is;
  next_is = next_same w first number taken s far;
  only = λ n it. after_one number taken n (s.only n it);
  all = λ n recent it.
      elim (cases_of number taken n it) [
        | inl is ↦ absurd (far (omega (arith, is, s.first_is, recent.from_first), omega (arith, is, recent.near)))
        | inr there ↦ s.all n recent there
      ];
}

-- the numbers that a side sends
awaited : (first count : ℕ) → next_of first (sent_numbers first count) ≡ first + count
awaited first zero = omega arith
awaited first (suc count) = omega (arith, awaited first count)

pub in_order : (first count : ℕ) → IsOrder first (sent_numbers first count) (first + count) Next
in_order first count = sym (awaited first count)

-- a number that was taken isn't new
pub once : (first : ℕ) (taken : List ℕ) (number : ℕ) (order : Order) → IsOrder first taken number order → Contains taken number → (order ≡ Repeat) ⊎ (order ≡ Old)
once first taken number Next it there = absurd (omega (arith, it, below first taken number there))
once first taken number AfterGap it there = absurd (omega (arith, it, below first taken number there))
once first taken number Late it there = absurd (it.1 there)
once first taken number Repeat it there = inl refl
once first taken number Old it there = inr refl

-- a number stands in one way to those before it
pub one_order : (first : ℕ) (taken : List ℕ) (number : ℕ) (one other : Order) → IsOrder first taken number one → IsOrder first taken number other → one ≡ other
one_order first taken number Next Next a b = refl
one_order first taken number Next AfterGap a b = absurd (omega (arith, a, b))
one_order first taken number Next Late a b = absurd (omega (arith, a, b.0.before))
one_order first taken number Next Repeat a b = absurd (omega (arith, a, b.0.before))
one_order first taken number Next Old a b = absurd (omega (arith, a, b.0))
one_order first taken number AfterGap Next a b = absurd (omega (arith, a, b))
one_order first taken number AfterGap AfterGap a b = refl
one_order first taken number AfterGap Late a b = absurd (omega (arith, a, b.0.before))
one_order first taken number AfterGap Repeat a b = absurd (omega (arith, a, b.0.before))
one_order first taken number AfterGap Old a b = absurd (omega (arith, a, b.0))
one_order first taken number Late Next a b = absurd (omega (arith, b, a.0.before))
one_order first taken number Late AfterGap a b = absurd (omega (arith, b, a.0.before))
one_order first taken number Late Late a b = refl
one_order first taken number Late Repeat a b = absurd (a.1 b.1)
one_order first taken number Late Old a b = absurd (b.1 a.0)
one_order first taken number Repeat Next a b = absurd (omega (arith, b, a.0.before))
one_order first taken number Repeat AfterGap a b = absurd (omega (arith, b, a.0.before))
one_order first taken number Repeat Late a b = absurd (b.1 a.1)
one_order first taken number Repeat Repeat a b = refl
one_order first taken number Repeat Old a b = absurd (b.1 a.0)
one_order first taken number Old Next a b = absurd (omega (arith, b, a.0))
one_order first taken number Old AfterGap a b = absurd (omega (arith, b, a.0))
one_order first taken number Old Late a b = absurd (a.1 b.0)
one_order first taken number Old Repeat a b = absurd (a.1 b.0)
one_order first taken number Old Old a b = refl
