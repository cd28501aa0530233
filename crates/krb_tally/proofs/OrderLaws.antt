-- Items in an order, seen from one of them: what is before one item and what isn't.
use Rattle.std.proofs.Common.{◌≡◌, ℕ, ℤ, pos, ◌≤ℤ◌, ◌<ℤ◌, ◌<◌, ◌≤◌, length, Bool, true, false, true≢false, List, All, refl, sym, ap, subst, ◌∙◌, arith}
use Rattle.std.specs.Cmp.{IsTotalOrder}
use Rattle.std.specs.declared.cmp.Ordering.{Ordering}
use Rattle.std.specs.declared.cmp.Ordering.TheVariants.{Less, Equal, Greater}
use Rattle.std.specs.Ordering.{int_cmp, is_eq, is_le, is_lt, ordering_index, ordering_reverse}
use Rattle.std.proofs.lemmas.Cmp.{alike_right, tied_itself}
use Rattle.std.proofs.lemmas.Int.{ints}
use Rattle.std.proofs.lemmas.List.Elements.{All-weaker}
use Rattle.krb_tally.specs.Times.{LacksEqual}
use Rattle.krb_tally.specs.Inner.Buckets.{AddsIn, Fits, IsRising, IsSorted, place_from}

at_most_2 : (r : Ordering) → pos (ordering_index r) ≤ℤ pos 2
at_most_2 Less = omega (arith, ints)
at_most_2 Equal = omega (arith, ints)
at_most_2 Greater = omega (arith, ints)

not_more : (z : ℤ) → z ≤ℤ z
not_more z = omega (arith, ints)

below_by : (xi ip xp : Ordering) → (xi ≡ Less → ip ≡ Less → xp ≡ Less) → (ip ≡ Equal → xi ≡ xp) → (xi ≡ Equal → xp ≡ ip)
    → pos (ordering_index xi) ≤ℤ pos 1 → pos (ordering_index xp) ≤ℤ pos (ordering_index ip)
below_by Less Less xp both alike same upto = subst (λ (r : Ordering). pos (ordering_index r) ≤ℤ pos 0) (sym (both refl refl)) (not_more (pos 0))
below_by Less Equal xp both alike same upto = subst (λ (r : Ordering). pos (ordering_index r) ≤ℤ pos 1) (alike refl) (omega (arith, ints))
below_by Less Greater xp both alike same upto = at_most_2 xp
below_by Equal ip xp both alike same upto = subst (λ (r : Ordering). pos (ordering_index r) ≤ℤ pos (ordering_index ip)) (sym (same refl)) (not_more (pos (ordering_index ip)))
below_by Greater ip xp both alike same upto = absurd (omega (arith, ints))

turned : (r : Ordering) → pos 1 ≤ℤ pos (ordering_index r) → pos (ordering_index (ordering_reverse r)) ≤ℤ pos 1
turned Less from = absurd (omega (arith, ints))
turned Equal from = omega (arith, ints)
turned Greater from = omega (arith, ints)

le_of : (r : Ordering) → pos (ordering_index r) ≤ℤ pos 1 → is_le r ≡ true
le_of Less upto = refl
le_of Equal upto = refl
le_of Greater upto = absurd (omega (arith, ints))

pub less_than : (r : Ordering) → is_lt r ≡ true → pos (ordering_index r) <ℤ pos 1
less_than Less e = omega (arith, ints)
less_than Equal e = absurd (cc)
less_than Greater e = absurd (cc)

pub not_less : (r : Ordering) → is_lt r ≡ false → pos 1 ≤ℤ pos (ordering_index r)
not_less Less e = absurd (cc)
not_less Equal e = omega (arith, ints)
not_less Greater e = omega (arith, ints)

int_le : (one other : ℤ) → is_le (int_cmp one other) ≡ true → one ≤ℤ other
int_le one other le = grind (arith, ints)

equal_at : (r : Ordering) → is_eq r ≡ true → pos (ordering_index r) ≡ pos 1
equal_at Less e = absurd (cc)
equal_at Equal e = refl
equal_at Greater e = absurd (cc)

pub equal_there : (r : Ordering) → pos (ordering_index r) ≡ pos 1 → is_eq r ≡ true
equal_there Less at = absurd (omega (arith, ints))
equal_there Equal at = refl
equal_there Greater at = absurd (omega (arith, ints))

apart_at : (r : Ordering) → (pos (ordering_index r) ≡ pos 1 → ⊥) → is_eq r ≡ false
apart_at Less other = refl
apart_at Equal other = absurd (other refl)
apart_at Greater other = refl

module _ {X : Type 0} (cmp : X → X → Ordering) (total : IsTotalOrder cmp) where
  -- an item stands with itself
  pub own : (item : X) → place_from cmp item item ≡ pos 1
  own item = ap (λ (r : Ordering). pos (ordering_index r)) (tied_itself total item)

  -- what isn't after an item isn't, seen from any
  pub below : (x item one : X) → place_from cmp item x ≤ℤ pos 1 → place_from cmp one x ≤ℤ place_from cmp one item
  below x item one upto =
      below_by (cmp x item) (cmp item one) (cmp x one) (total.trans x item one) (λ e. alike_right total item one x e) (λ e. total.congr x item one e) upto

  turn : (x item : X) → pos 1 ≤ℤ place_from cmp item x → place_from cmp x item ≤ℤ pos 1
  turn x item from = subst (λ (r : Ordering). pos (ordering_index r) ≤ℤ pos 1) (sym (total.antisymm item x)) (turned (cmp x item) from)

  -- nor is an item after what isn't before it
  pub above : (x item one : X) → pos 1 ≤ℤ place_from cmp item x → place_from cmp one item ≤ℤ place_from cmp one x
  above x item one from = below item x one (turn x item from)

  module _ (when : X → ℤ) (law : (one other : X) → is_le (cmp one other) ≡ true → is_le (int_cmp (when one) (when other)) ≡ true) where
    pub time_below : (x item : X) → place_from cmp item x ≤ℤ pos 1 → when x ≤ℤ when item
    time_below x item upto = int_le (when x) (when item) (law x item (le_of (cmp x item) upto))

    pub time_above : (x item : X) → pos 1 ≤ℤ place_from cmp item x → when item ≤ℤ when x
    time_above x item from = time_below item x (turn x item from)

    -- an equal item is of the same time
    pub same_time : (x item : X) → is_eq (cmp x item) ≡ true → when x ≡ when item
    same_time x item e =
        let at : place_from cmp item x ≡ pos 1 = equal_at (cmp x item) e in
        let one = time_below x item (omega (arith, ints)) in
        let other = time_above x item (omega (arith, ints)) in
        omega (arith, ints)

    -- a new item in its place, by the times
    pub adds_by_time : (old new : List X) (item : X) → AddsIn (place_from cmp item) old item new → AddsIn when old item new
    adds_by_time old new item more = record {
      early = more.early;
      late = more.late;
      old_is = more.old_is;
      new_is = more.new_is;
      not_after = All-weaker (λ x. place_from cmp item x ≤ℤ place_from cmp item item) (λ x. when x ≤ℤ when item)
          (λ x upto. time_below x item (let at = own item in omega (arith, ints))) more.early more.not_after;
      not_before = All-weaker (λ x. place_from cmp item item ≤ℤ place_from cmp item x) (λ x. when item ≤ℤ when x)
          (λ x from. time_above x item (let at = own item in omega (arith, ints))) more.late more.not_before;
    }

    pub fits_by_time : (buckets : List (List X)) (item : X) (before from : ℕ) → Fits (place_from cmp item) buckets (pos 1) before from → Fits when buckets (when item) before from
    fits_by_time buckets item before from fits = record {
      early = All-weaker (λ x. place_from cmp item x ≤ℤ pos 1) (λ x. when x ≤ℤ when item) (λ x upto. time_below x item upto) _ fits.early;
      late = All-weaker (λ x. pos 1 ≤ℤ place_from cmp item x) (λ x. when item ≤ℤ when x) (λ x from. time_above x item from) _ fits.late;
    }

  -- and seen from any
  pub adds_from : (one : X) (old new : List X) (item : X) → AddsIn (place_from cmp item) old item new → AddsIn (place_from cmp one) old item new
  adds_from one old new item more = record {
    early = more.early;
    late = more.late;
    old_is = more.old_is;
    new_is = more.new_is;
    not_after = All-weaker (λ x. place_from cmp item x ≤ℤ place_from cmp item item) (λ x. place_from cmp one x ≤ℤ place_from cmp one item)
        (λ x upto. below x item one (let at = own item in omega (arith, ints))) more.early more.not_after;
    not_before = All-weaker (λ x. place_from cmp item item ≤ℤ place_from cmp item x) (λ x. place_from cmp one item ≤ℤ place_from cmp one x)
        (λ x from. above x item one (let at = own item in omega (arith, ints))) more.late more.not_before;
  }

  pub fits_from : (one : X) (buckets : List (List X)) (item : X) (before from : ℕ) → Fits (place_from cmp item) buckets (pos 1) before from
      → Fits (place_from cmp one) buckets (place_from cmp one item) before from
  fits_from one buckets item before from fits = record {
    early = All-weaker (λ x. place_from cmp item x ≤ℤ pos 1) (λ x. place_from cmp one x ≤ℤ place_from cmp one item) (λ x upto. below x item one upto) _ fits.early;
    late = All-weaker (λ x. pos 1 ≤ℤ place_from cmp item x) (λ x. place_from cmp one item ≤ℤ place_from cmp one x) (λ x from. above x item one from) _ fits.late;
  }

module _ {X : Type 0} (cmp : X → X → Ordering) (eq : X → X → Bool) (ties : (x y : X) → eq x y ≡ is_eq (cmp x y)) where
  -- none is equal if none stands with the item
  pub lacks_equal : (when : X → ℤ) (items : List X) (item : X) → All (λ x. place_from cmp item x ≡ pos 1 → ⊥) items → LacksEqual when eq items item
  lacks_equal when items item none =
      All-weaker (λ x. place_from cmp item x ≡ pos 1 → ⊥) (λ x. when x ≡ when item → eq x item ≡ false) (λ x other _. ties x item ∙ apart_at (cmp x item) other) items none

  -- and none stands with the item if none of its time is equal
  pub lacks_places : IsTotalOrder cmp → (when : X → ℤ) → ((one other : X) → is_le (cmp one other) ≡ true → is_le (int_cmp (when one) (when other)) ≡ true) → (items : List X) (item : X)
      → LacksEqual when eq items item → All (λ x. place_from cmp item x ≡ pos 1 → ⊥) items
  lacks_places total when law items item lacks =
      All-weaker (λ x. when x ≡ when item → eq x item ≡ false) (λ x. place_from cmp item x ≡ pos 1 → ⊥)
      (λ x apart at. true≢false (sym (ties x item ∙ equal_there (cmp x item) at) ∙ apart (same_time cmp total when law x item (equal_there (cmp x item) at)))) items lacks

-- what a bucket is, of items that keep the order of others
pub is_bucket : {X : Type 0} (when : X → ℤ) (cmp : X → X → Ordering) (others items : List X) → 0 < length items → length items ≤ 1024 → ((by : X → ℤ) → IsRising by others → IsRising by items)
    → IsRising when others → IsSorted cmp others → (0 < length items) × ((length items ≤ 1024) × (IsRising when items × IsSorted cmp items))
is_bucket when cmp others items some most keep rising sorted = (some, (most, (keep when rising, record { from = λ one. keep (place_from cmp one) (sorted.from one) })))
