-- Items in buckets of at most 1,024. A bucket's items are in order, by their times first, and the buckets follow each other.
use Rattle.std.specs.Ordering.{ordering_index}
use Rattle.std.specs.declared.cmp.Ordering.{Ordering}
use Rattle.std.specs.Prelude.{◌≡◌, ◌<◌, ◌≤ℤ◌, ℕ, ℤ, pos, suc, List, [], ◌∷◌, ◌++◌, All, Contains, length, take, drop, slice_index_or, ⊤}

-- the items of all buckets
abbrev pub all_of : {X : Type 0} → List (List X) → List X
all_of [] = []
all_of (bucket ∷ buckets) = bucket ++ all_of buckets

-- there is a place in one of several buckets
abbrev pub IsPlace : {X : Type 0} → List (List X) → ℕ → ℕ → Type 0
IsPlace buckets bucket at = (bucket < length buckets) × (at < length (slice_index_or buckets bucket []))

-- the item at a place is taken out, and the others are still in their order
pub record TakesOut {X : Type 0} (old : List (List X)) (bucket at : ℕ) (item : X) (new : List (List X)) : Type 0 where
  pub after : List X
  pub old_is : all_of old ≡ (all_of (take bucket old) ++ take at (slice_index_or old bucket [])) ++ item ∷ after
  pub new_is : all_of new ≡ (all_of (take bucket old) ++ take at (slice_index_or old bucket [])) ++ after

-- a bucket has become two, each with room for more; the others are as they were
pub record Halves {X : Type 0} (old : List (List X)) (bucket : ℕ) (new : List (List X)) : Type 0 where
  pub within : suc bucket < length new
  pub before : take bucket new ≡ take bucket old
  pub lower : length (slice_index_or new bucket []) < 1024
  pub upper : length (slice_index_or new (suc bucket) []) < 1024
  pub after : drop (suc (suc bucket)) new ≡ drop (suc bucket) old

-- where one stands in an order, seen from an item: 0 before it, 1 with it, 2 after it
abbrev pub place_from : {X : Type 0} → (X → X → Ordering) → X → X → ℤ
place_from cmp item one = pos (ordering_index (cmp one item))

module _ {X : Type 0} (time : X → ℤ) where
  -- no item is after a later one
  abbrev pub IsRising : List X → Type 0
  IsRising [] = ⊤
  IsRising (item ∷ items) = All (λ later. time item ≤ℤ time later) items × IsRising items

  -- one more item stands between those that aren't after it and those that aren't before it
  pub record AddsIn (old : List X) (item : X) (new : List X) : Type 0 where
    pub early : List X
    pub late : List X
    pub old_is : old ≡ early ++ late
    pub new_is : new ≡ early ++ item ∷ late
    pub not_after : All (λ other. time other ≤ℤ time item) early
    pub not_before : All (λ other. time item ≤ℤ time other) late

  -- an item of this time stands at a place
  pub record IsAt (items : List X) (at : ℕ) (moment : ℤ) : Type 0 where
    pub within : at < length items
    pub here : (d : X) → time (slice_index_or items at d) ≡ moment

  -- an item of this time stands at a place of one of several buckets
  abbrev pub IsIn : List (List X) → ℕ → ℕ → ℤ → Type 0
  IsIn buckets bucket at moment = (bucket < length buckets) × IsAt (slice_index_or buckets bucket []) at moment

  -- one of a bucket's items isn't before a moment, and no later bucket has an item before that one
  pub record Reaches (buckets : List (List X)) (bucket : ℕ) (moment : ℤ) : Type 0 where
    pub late : X
    pub there : Contains (slice_index_or buckets bucket []) late
    pub not_before : moment ≤ℤ time late
    pub later : All (λ one. time late ≤ℤ time one) (all_of (drop (suc bucket) buckets))

  -- a time fits after the buckets before one place, and before those from another on
  pub record Fits (buckets : List (List X)) (moment : ℤ) (before from : ℕ) : Type 0 where
    pub early : All (λ other. time other ≤ℤ moment) (all_of (take before buckets))
    pub late : All (λ other. moment ≤ℤ time other) (all_of (drop from buckets))

-- seen from any item, none is after a later one
pub record IsSorted {X : Type 0} (cmp : X → X → Ordering) (items : List X) : Type 0 where
  pub from : (item : X) → IsRising (place_from cmp item) items
