-- How many tuples each key has: the names of a service and a client, or the client alone.
use Rattle.std.specs.Prelude.{◌≡◌, ◌≢◌, ◌+◌, ℕ, Bool, true, false, cond, Some}
use Rattle.std.specs.BTreeMap.{BTreeMap, get, is_at}
use Rattle.std.specs.Map.{count_at}
use Rattle.std.specs.declared.cmp.Ordering.{Ordering}

module _ {K : Type 0} (cmp : K → K → Ordering) where
  -- what is counted for a key
  abbrev pub count_by : BTreeMap K ℕ → K → ℕ
  count_by counts key = count_at (get cmp counts) key

  -- one, if the keys are equal
  abbrev pub one_by : K → K → ℕ
  one_by key other = cond (is_at (cmp key) other) 1 0

  -- no key is kept that has none
  abbrev pub HasNoZero : BTreeMap K ℕ → Type 0
  HasNoZero counts = (key : K) → get cmp counts key ≢ Some 0

  -- one key has one more
  pub record AddsOne (old new : BTreeMap K ℕ) (key : K) : Type 0 where
    pub counts : (other : K) → count_by new other ≡ count_by old other + one_by key other
    pub no_zero : HasNoZero old → HasNoZero new

  -- one key has one less
  pub record TakesOne (old new : BTreeMap K ℕ) (key : K) : Type 0 where
    pub counts : (other : K) → count_by new other + one_by key other ≡ count_by old other
    pub no_zero : HasNoZero old → HasNoZero new

  -- each key has as many
  pub record SameCounts (old new : BTreeMap K ℕ) : Type 0 where
    pub counts : (other : K) → count_by new other ≡ count_by old other
    pub no_zero : HasNoZero old → HasNoZero new

  -- one key has one more, if that is to be counted
  abbrev pub AddsIf : Bool → BTreeMap K ℕ → BTreeMap K ℕ → K → Type 0
  AddsIf true old new key = AddsOne old new key
  AddsIf false old new key = SameCounts old new

  -- one key has one less, if that was counted
  abbrev pub TakesIf : Bool → BTreeMap K ℕ → BTreeMap K ℕ → K → Type 0
  TakesIf true old new key = TakesOne old new key
  TakesIf false old new key = SameCounts old new
