-- The times that each key has: the names of a service and a client, or the client alone.
use Rattle.std.specs.Prelude.{◌≡◌, ◌≢◌, ◌+◌, ◌<◌, ◌&&◌, ℕ, ℤ, Bool, true, cond, Some, List, [], length}
use Rattle.std.specs.List.{filter}
use Rattle.std.specs.Option.{unwrap_or}
use Rattle.std.specs.BTreeMap.{BTreeMap, get, get_key, is_at}
use Rattle.std.specs.declared.cmp.Ordering.{Ordering}

module _ {K : Type 0} (cmp : K → K → Ordering) where
  -- the times of a key
  abbrev pub times_by : BTreeMap K (List ℤ) → K → List ℤ
  times_by times key = unwrap_or (get cmp times key) []

  -- how many of them pass a test
  abbrev pub number_by : BTreeMap K (List ℤ) → K → (ℤ → Bool) → ℕ
  number_by times key passes = length (filter passes (times_by times key))

  -- how many times a key has
  abbrev pub all_by : BTreeMap K (List ℤ) → K → ℕ
  all_by times key = number_by times key (λ time. true)

  -- the key that is kept and is equal to this one, or this one if there is none
  abbrev pub kept_by : BTreeMap K (List ℤ) → K → K
  kept_by times key = unwrap_or (get_key cmp times key) key

  -- a key that had times, and has some, is kept as it was
  abbrev pub KeepsKeys : BTreeMap K (List ℤ) → BTreeMap K (List ℤ) → Type 0
  KeepsKeys old new = (key : K) → 0 < all_by old key → 0 < all_by new key → kept_by new key ≡ kept_by old key

  -- one, if the keys are equal and the time passes
  abbrev pub one_at : K → K → Bool → ℕ
  one_at key other passes = cond (is_at (cmp key) other && passes) 1 0

  -- no key is kept that has none
  abbrev pub HasNoEmpty : BTreeMap K (List ℤ) → Type 0
  HasNoEmpty times = (key : K) → get cmp times key ≢ Some []

  -- one key has one more time
  pub record AddsTime (old new : BTreeMap K (List ℤ)) (key : K) (time : ℤ) : Type 0 where
    pub times : (other : K) (passes : ℤ → Bool) → number_by new other passes ≡ number_by old other passes + one_at key other (passes time)
    pub no_empty : HasNoEmpty old → HasNoEmpty new
    pub keys : KeepsKeys old new
    pub own : kept_by new key ≡ kept_by old key

  -- one key has one time less
  pub record TakesTime (old new : BTreeMap K (List ℤ)) (key : K) (time : ℤ) : Type 0 where
    pub times : (other : K) (passes : ℤ → Bool) → number_by new other passes + one_at key other (passes time) ≡ number_by old other passes
    pub no_empty : HasNoEmpty old → HasNoEmpty new
    pub keys : KeepsKeys old new

  -- each key has the same times
  pub record SameTimes (old new : BTreeMap K (List ℤ)) : Type 0 where
    pub times : (other : K) (passes : ℤ → Bool) → number_by new other passes ≡ number_by old other passes
    pub no_empty : HasNoEmpty old → HasNoEmpty new
    pub keys : KeepsKeys old new
