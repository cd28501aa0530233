-- Items in the order of their times, and how many of them aren't before a moment.
use Rattle.std.proofs.Common.{◌≡◌, ◌≢◌, ℕ, zero, suc, ℤ, ◌≤ℤ◌, ◌<ℤ◌, ◌<◌, ◌≤◌, ◌+◌, ◌-◌, Bool, true, false, not, cond, int_lt, List, [], ◌∷◌, ◌++◌, All, length, get_or, take, drop, refl, sym, ap, subst, ◌∙◌, add-one, arith, length-append}
use Rattle.std.specs.List.{filter, insert, remove}
use Rattle.std.specs.List.Sorted.{IsPermutation}
use Rattle.std.proofs.lemmas.Int.{ints}
use Rattle.std.proofs.lemmas.List.{drop_more, length-drop, take-append-drop}
use Rattle.std.proofs.lemmas.List.Sorted.{IsPermutation-middle, IsPermutation-sym}
use Rattle.std.proofs.lemmas.List.Elements.{All-append, All-cons, All-get_or, All-head, All-nil, All-tail, All-weaker, filter-append}
use Rattle.krb_tally.specs.Times.{HasEqual, LacksEqual, number_since, since}
use Rattle.krb_tally.specs.Inner.Buckets.{AddsIn, IsRising}

-- the part of a list before or after a cut
pub all_left : {X : Type 0} (P : X → Type 0) (a b : List X) → All P (a ++ b) → All P a
all_left P [] b all = All-nil P
all_left P (x ∷ a) b all = All-cons P x a (All-head P x (a ++ b) all) (all_left P a b (All-tail P x (a ++ b) all))

pub all_right : {X : Type 0} (P : X → Type 0) (a b : List X) → All P (a ++ b) → All P b
all_right P [] b all = all
all_right P (x ∷ a) b all = all_right P a b (All-tail P x (a ++ b) all)

isnt_before : (oldest time : ℤ) → oldest ≤ℤ time → int_lt time oldest ≡ false
isnt_before oldest time h = grind (arith, ints)

is_before : (oldest time : ℤ) → time <ℤ oldest → int_lt time oldest ≡ true
is_before oldest time h = grind (arith, ints)

-- the items before a place, the one there, and the rest
pub at_place : {X : Type 0} (items : List X) (at : ℕ) (d : X) → at < length items → items ≡ take at items ++ get_or items at d ∷ drop (suc at) items
at_place items at d within =
    sym (take-append-drop at items) ∙ ap (λ rest. take at items ++ rest)
    (drop_more items at d within ∙ ap (λ (n : ℕ). get_or items at d ∷ drop n items) (add-one at))

module _ {X : Type 0} (when : X → ℤ) where
  -- one more item in order
  pub rising_more : (a : List X) (item : X) (b : List X) → IsRising when (a ++ b) → All (λ x. when x ≤ℤ when item) a → All (λ x. when item ≤ℤ when x) b
      → IsRising when (a ++ item ∷ b)
  rising_more [] item b rising early late = (late, rising)
  rising_more (x ∷ a) item b rising early late = (
    All-append (λ y. when x ≤ℤ when y) a (item ∷ b) (all_left (λ y. when x ≤ℤ when y) a b rising.0)
        (All-cons (λ y. when x ≤ℤ when y) item b (All-head (λ y. when y ≤ℤ when item) x a early) (all_right (λ y. when x ≤ℤ when y) a b rising.0)),
    rising_more a item b rising.1 (All-tail (λ y. when y ≤ℤ when item) x a early) late,
  )

  -- one item less
  pub rising_less : (a : List X) (item : X) (b : List X) → IsRising when (a ++ item ∷ b) → IsRising when (a ++ b)
  rising_less [] item b rising = rising.1
  rising_less (x ∷ a) item b rising = (
    All-append (λ y. when x ≤ℤ when y) a b (all_left (λ y. when x ≤ℤ when y) a (item ∷ b) rising.0)
        (All-tail (λ y. when x ≤ℤ when y) item b (all_right (λ y. when x ≤ℤ when y) a (item ∷ b) rising.0)),
    rising_less a item b rising.1,
  )

  pub rising_left : (a b : List X) → IsRising when (a ++ b) → IsRising when a
  rising_left [] b rising = tt
  rising_left (x ∷ a) b rising = (all_left (λ y. when x ≤ℤ when y) a b rising.0, rising_left a b rising.1)

  pub rising_right : (a b : List X) → IsRising when (a ++ b) → IsRising when b
  rising_right [] b rising = rising
  rising_right (x ∷ a) b rising = rising_right a b rising.1

  -- no item before one of two parts is after one of the other
  pub apart : (a b : List X) → IsRising when (a ++ b) → All (λ x. All (λ y. when x ≤ℤ when y) b) a
  apart [] b rising = All-nil (λ x. All (λ y. when x ≤ℤ when y) b)
  apart (x ∷ a) b rising = All-cons (λ x. All (λ y. when x ≤ℤ when y) b) x a (all_right (λ y. when x ≤ℤ when y) a b rising.0) (apart a b rising.1)

  -- no item up to a place is after the one there
  pub up_to : (items : List X) (at : ℕ) (d : X) → at < length items → IsRising when items → All (λ x. when x ≤ℤ when (get_or items at d)) (take (suc at) items)
  up_to [] at d within rising = absurd (omega arith)
  up_to (x ∷ items) zero d within rising = All-cons (λ y. when y ≤ℤ when x) x [] (omega (arith, ints)) (All-nil (λ y. when y ≤ℤ when x))
  up_to (x ∷ items) (suc at) d within rising =
      All-cons (λ y. when y ≤ℤ when (get_or items at d)) x (take (suc at) items) (All-get_or (λ y. when x ≤ℤ when y) items at d (omega arith) rising.0)
      (up_to items at d (omega arith) rising.1)

  -- no item from a place on is before the one there
  pub from_on : (items : List X) (at : ℕ) (d : X) → at < length items → IsRising when items → All (λ x. when (get_or items at d) ≤ℤ when x) (drop at items)
  from_on [] at d within rising = absurd (omega arith)
  from_on (x ∷ items) zero d within rising = All-cons (λ y. when x ≤ℤ when y) x items (omega (arith, ints)) rising.0
  from_on (x ∷ items) (suc at) d within rising = from_on items at d (omega arith) rising.1

  -- if none is before a moment, all count
  pub all_since : (oldest : ℤ) (items : List X) → All (λ x. oldest ≤ℤ when x) items → number_since when oldest items ≡ length items
  all_since oldest [] late = refl
  all_since oldest (item ∷ items) late =
      let here : int_lt (when item) oldest ≡ false = isnt_before oldest (when item) (All-head (λ x. oldest ≤ℤ when x) item items late) in
      let rest = all_since oldest items (All-tail (λ x. oldest ≤ℤ when x) item items late) in
      ap (λ (before : Bool). length (cond (not before) (item ∷ filter (λ (x : X). not (int_lt (when x) oldest)) items) (filter (λ (x : X). not (int_lt (when x) oldest)) items))) here
      ∙ ap (λ (n : ℕ). suc n) rest

  -- if all are before a moment, none counts
  pub none_since : (oldest : ℤ) (items : List X) → All (λ x. when x <ℤ oldest) items → number_since when oldest items ≡ 0
  none_since oldest [] early = refl
  none_since oldest (item ∷ items) early =
      let here : int_lt (when item) oldest ≡ true = is_before oldest (when item) (All-head (λ x. when x <ℤ oldest) item items early) in
      let rest = none_since oldest items (All-tail (λ x. when x <ℤ oldest) item items early) in
      ap (λ (before : Bool). length (cond (not before) (item ∷ filter (λ (x : X). not (int_lt (when x) oldest)) items) (filter (λ (x : X). not (int_lt (when x) oldest)) items))) here
      ∙ rest

  pub both_parts : (oldest : ℤ) (a b : List X) → number_since when oldest (a ++ b) ≡ number_since when oldest a + number_since when oldest b
  both_parts oldest a b =
      ap (λ (items : List X). length items) (filter-append (λ (item : X). not (int_lt (when item) oldest)) a b)
      ∙ length-append (since when oldest a) (since when oldest b)

  pub rising_take : (n : ℕ) (items : List X) → IsRising when items → IsRising when (take n items)
  rising_take n items rising = rising_left (take n items) (drop n items) (subst (λ (all : List X). IsRising when all) (sym (take-append-drop n items)) rising)

  pub rising_drop : (n : ℕ) (items : List X) → IsRising when items → IsRising when (drop n items)
  rising_drop n items rising = rising_right (take n items) (drop n items) (subst (λ (all : List X). IsRising when all) (sym (take-append-drop n items)) rising)

  pub rising_remove : (items : List X) (at : ℕ) (d : X) → at < length items → IsRising when items → IsRising when (remove items at)
  rising_remove items at d within rising =
      rising_less (take at items) (get_or items at d) (drop (suc at) items) (subst (λ (all : List X). IsRising when all) (at_place items at d within) rising)

  module _ (items : List X) (rising : IsRising when items) (middle : ℕ) (d : X) (moment : ℤ) (within : middle < length items) where
    -- a search goes on after an item that is early
    pub search_more : when (get_or items middle d) <ℤ moment → All (λ y. when y <ℤ moment) (take (middle + 1) items)
    search_more early =
        subst (λ (n : ℕ). All (λ y. when y <ℤ moment) (take n items)) (sym (add-one middle))
        (All-weaker (λ y. when y ≤ℤ when (get_or items middle d)) (λ y. when y <ℤ moment) (λ y upto. omega (arith, ints)) (take (suc middle) items) (up_to items middle d within rising))

    -- a search goes on before an item that is late
    pub search_less : moment ≤ℤ when (get_or items middle d) → All (λ y. moment ≤ℤ when y) (drop middle items)
    search_less late =
        All-weaker (λ y. when (get_or items middle d) ≤ℤ when y) (λ y. moment ≤ℤ when y) (λ y from. omega (arith, ints)) (drop middle items) (from_on items middle d within rising)

  -- what a search finds: those before its place are early, and those from it on are late
  pub early_before : (items : List X) (at : ℕ) (moment : ℤ) → IsRising when items → at ≤ length items → (0 < at → (one : X) → when (get_or items (at - 1) one) <ℤ moment)
      → All (λ y. when y <ℤ moment) (take at items)
  early_before items zero moment rising most early k d inside = absurd (omega arith)
  early_before items (suc at) moment rising most early k d inside =
      subst (λ (n : ℕ). All (λ y. when y <ℤ moment) (take n items)) (add-one at)
      (search_more items rising at d moment (omega arith) (let here : suc at - 1 ≡ at = omega arith in subst (λ (n : ℕ). when (get_or items n d) <ℤ moment) here (early (omega arith) d))) k d inside

  pub late_from : (items : List X) (at : ℕ) (moment : ℤ) → IsRising when items → (at < length items → (one : X) → moment ≤ℤ when (get_or items at one))
      → All (λ y. moment ≤ℤ when y) (drop at items)
  late_from items at moment rising late k d inside =
      let within : at < length items = let n = length-drop at items in omega arith in
      search_less items rising at d moment within (late within d) k d inside

  -- an item is added at its place
  pub adds : (items : List X) (at : ℕ) (item : X) → All (λ x. when x <ℤ when item) (take at items) → All (λ x. when item ≤ℤ when x) (drop at items)
      → (new : List X) → new ≡ insert items at item → AddsIn when items item new
  adds items at item early late new is = record {
    early = take at items;
    late = drop at items;
    old_is = sym (take-append-drop at items);
    new_is = is;
    not_after = All-weaker (λ x. when x <ℤ when item) (λ x. when x ≤ℤ when item) (λ x before. omega (arith, ints)) (take at items) early;
    not_before = late;
  }

  module _ (items : List X) (at : ℕ) (moment : ℤ) (early : All (λ x. when x <ℤ moment) (take at items)) (late : All (λ x. moment ≤ℤ when x) (drop at items)) where
    -- if none stands at its place, none is of the time
    pub lacks : (d : X) → IsRising when items → (at < length items → when (get_or items at d) ≡ moment → ⊥) → All (λ x. when x ≢ moment) items
    lacks d rising other =
        subst (λ (all : List X). All (λ x. when x ≢ moment) all) (take-append-drop at items)
        (All-append (λ x. when x ≢ moment) (take at items) (drop at items)
        (All-weaker (λ x. when x <ℤ moment) (λ x. when x ≢ moment) (λ x before same. omega (arith, ints)) (take at items) early)
        (λ k e inside.
        let within : at < length items = let n = length-drop at items in omega arith in
        let from = from_on items at d within rising k e inside in
        let first : moment ≤ℤ when (get_or items at d) = All-head (λ x. moment ≤ℤ when x) (get_or items at d) (drop (at + 1) items)
        (subst (λ (rest : List X). All (λ x. moment ≤ℤ when x) rest) (drop_more items at d within) late) in
        λ same. other within (omega (arith, ints))))

    -- those from its place on count
    pub number_from : at ≤ length items → length items - at ≡ number_since when moment items
    number_from within =
        let all = both_parts moment (take at items) (drop at items) in
        let none = none_since moment (take at items) early in
        let rest = all_since moment (drop at items) late in
        let n = length-drop at items in
        let whole = ap (λ (all : List X). number_since when moment all) (take-append-drop at items) in
        omega arith

  pub added_rising : (old new : List X) (item : X) → IsRising when old → AddsIn when old item new → IsRising when new
  added_rising old new item rising more =
      subst (λ (items : List X). IsRising when items) (sym more.new_is)
      (rising_more more.early item more.late (subst (λ (items : List X). IsRising when items) more.old_is rising) more.not_after more.not_before)

  pub added_length : (old new : List X) (item : X) → AddsIn when old item new → 0 < length new
  added_length old new item more =
      let n = ap (λ (items : List X). length items) more.new_is in
      let m = length-append more.early (item ∷ more.late) in
      omega arith

  pub added_most : (most : ℕ) (old new : List X) (item : X) → AddsIn when old item new → length old < most → length new ≤ most
  added_most most old new item more few =
      let n = ap (λ (items : List X). length items) more.new_is in
      let m = length-append more.early (item ∷ more.late) in
      let was = ap (λ (items : List X). length items) more.old_is in
      let sum = length-append more.early more.late in
      omega arith

  -- what is before a time, or after it, isn't an equal item of that time
  pub early_lacks : (eq : X → X → Bool) (items : List X) (item : X) → All (λ x. when x <ℤ when item) items → LacksEqual when eq items item
  early_lacks eq items item early k d within same = let before = early k d within in absurd (omega (arith, ints))

  pub late_lacks : (eq : X → X → Bool) (items : List X) (item : X) → All (λ x. when item <ℤ when x) items → LacksEqual when eq items item
  late_lacks eq items item late k d within same = let after = late k d within in absurd (omega (arith, ints))

  pub lacks_both : (eq : X → X → Bool) (a b : List X) (item : X) → LacksEqual when eq a item → LacksEqual when eq b item → LacksEqual when eq (a ++ b) item
  lacks_both eq a b item one other = All-append (λ x. when x ≡ when item → eq x item ≡ false) a b one other

-- an item equal to one stands in a longer list, too
pub has_right : {X : Type 0} (when : X → ℤ) (eq : X → X → Bool) (a b : List X) (item : X) → HasEqual when eq b item → HasEqual when eq (a ++ b) item
has_right when eq [] b item has = has
has_right when eq (x ∷ a) b item has =
    let more = has_right when eq a b item has in
    record { one = more.one; there = (suc more.there.0, omega (arith, more.there.1), more.there.2); same_time = more.same_time; equal = more.equal }

-- what is added is one more
pub adds_one : {X : Type 0} (when : X → ℤ) (old new : List X) (item : X) → AddsIn when old item new → IsPermutation (item ∷ old) new
adds_one when old new item more =
    subst (λ (items : List _). IsPermutation (item ∷ items) new) (sym more.old_is)
    (subst (λ (items : List _). IsPermutation (item ∷ (more.early ++ more.late)) items) (sym more.new_is)
    (IsPermutation-sym (more.early ++ item ∷ more.late) (item ∷ (more.early ++ more.late)) (IsPermutation-middle more.early item more.late)))
