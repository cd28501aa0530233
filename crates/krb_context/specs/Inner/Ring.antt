-- How a window keeps numbers: for each remainder of 64 the last number with it that was taken.
use Rattle.std.specs.Prelude.{◌≡◌, ◌≤◌, ◌%◌, ◌^◌, ℕ, List, [], ◌∷◌, Contains, Option, None, Some, slice_index_or}
use Rattle.krb_context.specs.Sequence.{Known, IsRecent, next_of}

pub record Ring : Type 0 where
  pub first : ℕ
  pub next : ℕ
  pub slots : List (Option ℕ)

abbrev pub has : List (Option ℕ) → ℕ → Type 0
has slots number = slice_index_or slots (number % 64) None ≡ Some number

-- the numbers that are kept
abbrev pub kept : List (Option ℕ) → List ℕ
kept [] = []
kept (None ∷ slots) = kept slots
kept (Some number ∷ slots) = number ∷ kept slots

-- each number is kept in the place of its remainder
pub record IsRing (next : ℕ) (slots : List (Option ℕ)) : Type 0 where
  pub within : next ≤ 2 ^ 64
  pub in_place : (place number : ℕ) → slice_index_or slots place None ≡ Some number → number % 64 ≡ place

-- the ring stands for these numbers, taken after `first`
pub record StandsFor (ring : Ring) (first : ℕ) (taken : List ℕ) : Type 0 where
  pub first_is : ring.first ≡ first
  pub next_is : ring.next ≡ next_of first taken
  pub only : (number : ℕ) → has ring.slots number → Contains taken number
  pub all : (number : ℕ) → IsRecent first ring.next number → Contains taken number → has ring.slots number

abbrev pub known_of : ℕ → ℕ → List (Option ℕ) → Known
known_of first next slots = record { first = first; next = next; recent = kept slots }
