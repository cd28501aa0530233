-- Rings, and what is known of the numbers in them.
use Rattle.std.proofs.Common.{◌≡◌, ◌∙◌, ◌%◌, ◌≤◌, ℕ, zero, suc, List, [], ◌∷◌, length, replicate, Option, Some, None, refl, sym, ap, subst, arith, slice_index_or, slice_set, inl, inr}
use Rattle.std.specs.Prelude.{Contains, ◌^◌}
use Rattle.std.proofs.lemmas.Bool.{cases_eq}
use Rattle.std.proofs.lemmas.List.{get_or-set_same, get_or-set_other}
use Rattle.krb_context.specs.Sequence.{Stands}
use Rattle.krb_context.specs.Inner.Ring.{IsRing, StandsFor, has, kept, known_of}
use Rattle.krb_context.proofs.Windows.{in_front, after_one, some_is}

none_is_no : (number : ℕ) → None ≡ Some number → ⊥
none_is_no number is = cc

-- what stands in some place is kept
kept_at : (slots : List (Option ℕ)) (place number : ℕ) → slice_index_or slots place None ≡ Some number → Contains (kept slots) number
kept_at [] place number is = absurd (none_is_no number is)
kept_at (None ∷ slots) zero number is = absurd (none_is_no number is)
kept_at (None ∷ slots) (suc place) number is = kept_at slots place number is
kept_at (Some other ∷ slots) zero number is = subst (λ (n : ℕ). Contains (other ∷ kept slots) n) (some_is other number is) (in_front other (kept slots))
kept_at (Some other ∷ slots) (suc place) number is = after_one other (kept slots) number (kept_at slots place number is)

-- what is kept stands in some place
place_of : (slots : List (Option ℕ)) (number : ℕ) → Contains (kept slots) number → (place : ℕ) × (slice_index_or slots place None ≡ Some number)
place_of [] number it = absurd (omega (arith, it.1))
place_of (None ∷ slots) number it = let there = place_of slots number it in (suc there.0, there.1)
place_of (Some other ∷ slots) number (zero, within, at) = (0, ap Some at)
place_of (Some other ∷ slots) number (suc k, within, at) =
    let there = place_of slots number (k, omega (arith, within), at) in (suc there.0, there.1)

pub kept_is : (next : ℕ) (slots : List (Option ℕ)) (number : ℕ) → IsRing next slots → Contains (kept slots) number → has slots number
kept_is next slots number ring it =
    let there = place_of slots number it in
    subst (λ (k : ℕ). slice_index_or slots k None ≡ Some number) (sym (ring.in_place there.0 number there.1)) there.1

-- what is known of a ring's numbers is what the ring stands for
pub ring_of : (first next : ℕ) (slots : List (Option ℕ)) (from : ℕ) (taken : List ℕ) → IsRing next slots → Stands (known_of first next slots) from taken
    → StandsFor (record { first = first; next = next; slots = slots }) from taken
ring_of first next slots from taken ring s = record {
  first_is = s.first_is;
  next_is = s.next_is;
  only = λ number it. s.only number (kept_at slots (number % 64) number it);
  all = λ number recent it. kept_is next slots number ring (s.all number recent it);
}

pub known_from : (first next : ℕ) (slots : List (Option ℕ)) (from : ℕ) (taken : List ℕ) → IsRing next slots
    → StandsFor (record { first = first; next = next; slots = slots }) from taken → Stands (known_of first next slots) from taken
known_from first next slots from taken ring s = record {
  first_is = s.first_is;
  next_is = s.next_is;
  only = λ number it. s.only number (kept_is next slots number ring it);
  all = λ number recent it. kept_at slots (number % 64) number (s.all number recent it);
}

some_mod : (number other place : ℕ) → number % 64 ≡ place → Some number ≡ Some other → other % 64 ≡ place
some_mod number other place at is = ap (λ (n : ℕ). n % 64) (sym (some_is number other is)) ∙ at

-- a number that is put into its place
pub put_in_place : (next next' : ℕ) (slots : List (Option ℕ)) (number : ℕ) → length slots ≡ 64 → next' ≤ 2 ^ 64 → IsRing next slots
    → IsRing next' (slice_set slots (number % 64) (Some number))
put_in_place next next' slots number size within ring = record {
  within = within;
  in_place = λ place other is.
      elim (cases_eq (number % 64) place) [
        | inl same ↦ some_mod number other place same
            (sym (get_or-set_same slots (number % 64) (Some number) None (omega (arith, size)))
            ∙ ap (λ (k : ℕ). slice_index_or (slice_set slots (number % 64) (Some number)) k None) same ∙ is)
        | inr apart ↦ ring.in_place place other (sym (get_or-set_other slots (number % 64) place (Some number) None (λ e. apart (sym e))) ∙ is)
      ];
}

nothing_at : (count place : ℕ) → let nothing : Option ℕ = None in slice_index_or (replicate count nothing) place nothing ≡ nothing
nothing_at zero place = refl
nothing_at (suc count) zero = refl
nothing_at (suc count) (suc place) = nothing_at count place

-- a ring in which nothing was put
pub empty_ring : (next : ℕ) → next ≤ 2 ^ 64 → IsRing next (replicate 64 None)
empty_ring next within = record { within = within; in_place = λ place number it. absurd (none_is_no number (sym (nothing_at 64 place) ∙ it)) }
