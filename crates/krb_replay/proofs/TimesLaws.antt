-- The times of each client after one more tuple or one less.
use Rattle.std.proofs.Common.{◌≡◌, ◌≢◌, inl, inr, ℕ, ℤ, zero, suc, ◌≤ℤ◌, ◌+◌, ◌<◌, ◌≤◌, ◌&&◌, Bool, true, false, not, cond, int_lt, Option, Some, None, List, [], ◌∷◌, length, Contains, refl, sym, ap, subst, ◌∙◌, arith}
use Rattle.std.specs.Prelude.{Result, Ok, Err, OnErr}
use Rattle.std.specs.List.{filter}
use Rattle.std.specs.List.Sorted.{IsPermutation}
use Rattle.std.specs.Ordering.{eq_by_cmp, is_eq}
use Rattle.std.specs.declared.cmp.Ordering.{Ordering}
use Rattle.std.specs.declared.cmp.Ordering.TheVariants.{Less, Equal, Greater}
use Rattle.std.specs.Cmp.{IsTotalOrder}
use Rattle.std.specs.Option.{unwrap_or}
use Rattle.std.specs.Map.{keys_of, lookup, lookup_key, remove_entry}
use Rattle.std.specs.BTreeMap.{BTreeMap, Updates, get, insert_entry, is_at}
use Rattle.std.proofs.lemmas.Cmp.{tied_itself}
use Rattle.std.proofs.lemmas.Int.{ints}
use Rattle.std.proofs.lemmas.List.Sorted.{Contains-permutation, IsPermutation-sym, length_permutation, sum_by-IsPermutation}
use Rattle.std.proofs.lemmas.List.Elements.{All-contains}
use Rattle.std.proofs.lemmas.Map.Views.{tells_apart}
use Rattle.std.proofs.lemmas.List.Sums.{length-filter}
use Rattle.krb_replay.specs.Stamp.{RealmAndName, Stamp}
use Rattle.krb_replay.specs.Inner.Held.{AreTimed, is_before, is_recent, number_before, number_of, since}
use Rattle.krb_replay.specs.Memory.{AddsStamp}
use Rattle.krb_tally.specs.Times.{HasEqual, LacksEqual}
use Rattle.krb_replay.specs.Inner.Order.{TwoNames, client_cmp, names_of, stamp_cmp, stamp_total}
use Rattle.krb_replay.specs.Inner.Times.{AddsTime, HasNoEmpty, KeepsKeys, SameTimes, TakesTime, kept_by, number_by, one_at, times_by}
use Rattle.krb_replay.proofs.DropLaws.{among_rest, first_or_rest}
use Rattle.krb_replay.proofs.HeldLaws.{all_of_none, both_kept, filter_longer, late_is, weighed}
use Rattle.krb_replay.proofs.KeysLaws.{inserted_other, inserted_own, none_found, removed_other, same_found}
use Rattle.krb_replay.proofs.OrderLaws.{exact_stamps}

-- as many pass in another order
pub same_number : {X : Type 0} (p : X → Bool) (xs ys : List X) → IsPermutation xs ys → length (filter p ys) ≡ length (filter p xs)
same_number p xs ys moved = length-filter p ys ∙ (sum_by-IsPermutation (λ x. cond (p x) 1 0) xs ys moved ∙ sym (length-filter p xs))

-- one more, or one less
pub one_more : {X : Type 0} (p : X → Bool) (x : X) (xs ys : List X) → IsPermutation (x ∷ xs) ys → length (filter p ys) ≡ weighed (p x) + length (filter p xs)
one_more p x xs ys moved = same_number p (x ∷ xs) ys moved ∙ filter_longer p x xs

pub one_less : {X : Type 0} (p : X → Bool) (x : X) (xs ys : List X) → IsPermutation xs (x ∷ ys) → length (filter p xs) ≡ weighed (p x) + length (filter p ys)
one_less p x xs ys moved = sym (same_number p xs (x ∷ ys) moved) ∙ filter_longer p x ys

pub all_pass : {X : Type 0} (xs : List X) → length (filter (λ (x : X). true) xs) ≡ length xs
all_pass [] = refl
all_pass (x ∷ xs) = let rest = all_pass xs in omega arith

is_tie : (o : Ordering) → is_eq o ≡ true → o ≡ Equal
is_tie Less e = absurd (cc)
is_tie Equal e = refl
is_tie Greater e = absurd (cc)

pub some_are_not_empty : (times : List ℤ) → 0 < length times → Some times ≢ Some []
some_are_not_empty times some e = let none : length times ≡ 0 = ap (λ (o : Option (List ℤ)). length (unwrap_or o [])) e in absurd (omega arith)

pub none_is_not_empty : (value : Option (List ℤ)) → value ≡ None → value ≢ Some []
none_is_not_empty None is empty = cc
none_is_not_empty (Some x) is empty = cc

at_value : (at : Bool) (found old value : Option (List ℤ)) → found ≡ cond at value old → value ≢ Some [] → old ≢ Some [] → found ≢ Some []
at_value true found old value is apart none empty = apart (sym is ∙ empty)
at_value false found old value is apart none empty = none (sym is ∙ empty)

module _ {K : Type 0} (cmp : K → K → Ordering) (total : IsTotalOrder cmp) where
  same_lookup : (key other : K) → cmp key other ≡ Equal → (entries : List (K × List ℤ)) → lookup (is_at (cmp key)) entries ≡ lookup (is_at (cmp other)) entries
  same_lookup key other same [] = refl
  same_lookup key other same (e ∷ es) =
      ap (λ (at : Bool). cond at (Some e.1) (lookup (is_at (cmp key)) es)) (ap is_eq (total.congr key other e.0 same))
      ∙ ap (λ (found : Option (List ℤ)). cond (is_at (cmp other) e.0) (Some e.1) found) (same_lookup key other same es)

  -- equal keys have the same times
  pub same_key : (times : BTreeMap K (List ℤ)) (key other : K) → is_at (cmp key) other ≡ true → times_by cmp times key ≡ times_by cmp times other
  same_key times key other same = ap (λ (found : Option (List ℤ)). unwrap_or found []) (same_lookup key other (is_tie (cmp key other) same) times.entries)

  hit : (old new : BTreeMap K (List ℤ)) (key other : K) (value : Option (List ℤ)) → Updates cmp old new key value
      → is_at (cmp key) other ≡ true → times_by cmp new other ≡ unwrap_or value []
  hit old new key other value updates same =
      ap (λ (found : Option (List ℤ)). unwrap_or found [])
      (updates.0 other ∙ ap (λ (at : Bool). cond at value (get cmp old other)) same)

  missed : (old new : BTreeMap K (List ℤ)) (key other : K) (value : Option (List ℤ)) → Updates cmp old new key value
      → is_at (cmp key) other ≡ false → times_by cmp new other ≡ times_by cmp old other
  missed old new key other value updates apart = ap (λ (found : Option (List ℤ)). unwrap_or found []) (updates.2 other apart)

  no_empty_after : (old new : BTreeMap K (List ℤ)) (key : K) (value : Option (List ℤ)) → Updates cmp old new key value → value ≢ Some [] → HasNoEmpty cmp old → HasNoEmpty cmp new
  no_empty_after old new key value updates apart none other =
      at_value (is_at (cmp key) other) (get cmp new other) (get cmp old other) value (updates.0 other) apart (none other)

  -- a key that is kept has another value
  pub keys_stay : (old new : BTreeMap K (List ℤ)) → keys_of new.entries ≡ keys_of old.entries → (key : K) → kept_by cmp new key ≡ kept_by cmp old key
  keys_stay old new same key = ap (λ (found : Option K). unwrap_or found key) (same_found (is_at (cmp key)) old.entries new.entries same)

  none_left : (times : List ℤ) → times ≡ [] → 0 < length (filter (λ (time : ℤ). true) times) → ⊥
  none_left [] none some = absurd (omega arith)
  none_left (x ∷ times) none some = absurd (cc)

  kept_unless : (at : Bool) (old new : BTreeMap K (List ℤ)) (key other : K) → is_at (cmp key) other ≡ at → (at ≡ true → ⊥)
      → (at ≡ false → lookup_key (is_at (cmp other)) new.entries ≡ lookup_key (is_at (cmp other)) old.entries) → kept_by cmp new other ≡ kept_by cmp old other
  kept_unless true old new key other is apart same = absurd (apart refl)
  kept_unless false old new key other is apart same = ap (λ (found : Option K). unwrap_or found other) (same refl)

  -- a key that had no times is inserted
  pub inserted_keeps : (old new : BTreeMap K (List ℤ)) (key : K) (now : List ℤ) → times_by cmp old key ≡ [] → new.entries ≡ insert_entry cmp old.entries key now → KeepsKeys cmp old new
  inserted_keeps old new key now none is other had has =
      kept_unless (is_at (cmp key) other) old new key other refl
      (λ at. none_left (times_by cmp old other) (sym (same_key old key other at) ∙ none) had)
      (λ apart. ap (λ (entries : List (K × List ℤ)). lookup_key (is_at (cmp other)) entries) is ∙ inserted_other cmp total key other now apart old.entries)

  pub inserted_is : (old new : BTreeMap K (List ℤ)) (key : K) (now : List ℤ) → get cmp old key ≡ None → new.entries ≡ insert_entry cmp old.entries key now
      → kept_by cmp new key ≡ kept_by cmp old key
  inserted_is old new key now none is =
      ap (λ (found : Option K). unwrap_or found key)
      (ap (λ (entries : List (K × List ℤ)). lookup_key (is_at (cmp key)) entries) is
      ∙ inserted_own cmp total key now old.entries (none_found (is_at (cmp key)) old.entries none))
      ∙ sym (ap (λ (found : Option K). unwrap_or found key) (none_found (is_at (cmp key)) old.entries none))

  -- a key is removed
  pub removed_keeps : (old new : BTreeMap K (List ℤ)) (key : K) → Updates cmp old new key None → new.entries ≡ remove_entry (is_at (cmp key)) old.entries → KeepsKeys cmp old new
  removed_keeps old new key updates is other had has =
      kept_unless (is_at (cmp key) other) old new key other refl
      (λ at. none_left (times_by cmp new other) (hit old new key other None updates at) has)
      (λ apart. ap (λ (entries : List (K × List ℤ)). lookup_key (is_at (cmp other)) entries) is ∙ removed_other cmp total key other apart old.entries)

  pub own_times : (old new : BTreeMap K (List ℤ)) (key : K) (now : List ℤ) → Updates cmp old new key (Some now) → times_by cmp new key ≡ now
  own_times old new key now updates = hit old new key key (Some now) updates (ap is_eq (tied_itself total key))

  more_at : (at : Bool) (old new : BTreeMap K (List ℤ)) (key other : K) (now : List ℤ) (time : ℤ) (passes : ℤ → Bool) → Updates cmp old new key (Some now)
      → IsPermutation (time ∷ times_by cmp old key) now → is_at (cmp key) other ≡ at
      → number_by cmp new other passes ≡ number_by cmp old other passes + cond (at && passes time) 1 0
  more_at true old new key other now time passes updates moved is =
      let after = ap (λ (times : List ℤ). length (filter passes times)) (hit old new key other (Some now) updates is) in
      let before = ap (λ (times : List ℤ). length (filter passes times)) (same_key old key other is) in
      let one = one_more passes time (times_by cmp old key) now moved in
      omega arith
  more_at false old new key other now time passes updates moved is =
      let same = ap (λ (times : List ℤ). length (filter passes times)) (missed old new key other (Some now) updates is) in
      omega arith

  pub more_times : (old new : BTreeMap K (List ℤ)) (key : K) (now : List ℤ) (time : ℤ) → Updates cmp old new key (Some now) → IsPermutation (time ∷ times_by cmp old key) now
      → KeepsKeys cmp old new → kept_by cmp new key ≡ kept_by cmp old key → AddsTime cmp old new key time
  more_times old new key now time updates moved keeps own = record {
    times = λ other passes. more_at (is_at (cmp key) other) old new key other now time passes updates moved refl;
    no_empty = no_empty_after old new key (Some now) updates (some_are_not_empty now (let longer = length_permutation (time ∷ times_by cmp old key) now moved in omega arith));
    keys = keeps;
    own = own;
  }

  less_at : (at : Bool) (old new : BTreeMap K (List ℤ)) (key other : K) (value : Option (List ℤ)) (time : ℤ) (passes : ℤ → Bool) → Updates cmp old new key value
      → IsPermutation (times_by cmp old key) (time ∷ unwrap_or value []) → is_at (cmp key) other ≡ at
      → number_by cmp new other passes + cond (at && passes time) 1 0 ≡ number_by cmp old other passes
  less_at true old new key other value time passes updates moved is =
      let after = ap (λ (times : List ℤ). length (filter passes times)) (hit old new key other value updates is) in
      let before = ap (λ (times : List ℤ). length (filter passes times)) (same_key old key other is) in
      let one = one_less passes time (times_by cmp old key) (unwrap_or value []) moved in
      omega arith
  less_at false old new key other value time passes updates moved is =
      let same = ap (λ (times : List ℤ). length (filter passes times)) (missed old new key other value updates is) in
      omega arith

  pub less_times : (old new : BTreeMap K (List ℤ)) (key : K) (value : Option (List ℤ)) (time : ℤ) → Updates cmp old new key value
      → IsPermutation (times_by cmp old key) (time ∷ unwrap_or value []) → value ≢ Some [] → KeepsKeys cmp old new → TakesTime cmp old new key time
  less_times old new key value time updates moved apart keeps = record {
    times = λ other passes. less_at (is_at (cmp key) other) old new key other value time passes updates moved refl;
    no_empty = no_empty_after old new key value updates apart;
    keys = keeps;
  }

  still_at : (at : Bool) (old new : BTreeMap K (List ℤ)) (key other : K) (passes : ℤ → Bool) (was : List ℤ) → Updates cmp old new key (Some was)
      → times_by cmp old key ≡ was → is_at (cmp key) other ≡ at → number_by cmp new other passes ≡ number_by cmp old other passes
  still_at true old new key other passes was updates same is =
      ap (λ (times : List ℤ). length (filter passes times)) (hit old new key other (Some was) updates is ∙ (sym same ∙ same_key old key other is))
  still_at false old new key other passes was updates same is =
      ap (λ (times : List ℤ). length (filter passes times)) (missed old new key other (Some was) updates is)

  -- what was there is written again
  pub still_times : (old new : BTreeMap K (List ℤ)) (key : K) (was : List ℤ) → Updates cmp old new key (Some was) → times_by cmp old key ≡ was
      → (HasNoEmpty cmp old → Some was ≢ Some []) → KeepsKeys cmp old new → SameTimes cmp old new
  still_times old new key was updates same apart keeps = record {
    times = λ other passes. still_at (is_at (cmp key) other) old new key other passes was updates same refl;
    no_empty = λ none. no_empty_after old new key (Some was) updates (apart none) none;
    keys = keeps;
  }

same_get : {K : Type 0} (cmp : K → K → Ordering) (old new : BTreeMap K (List ℤ)) (other : K) → new.entries ≡ old.entries → get cmp new other ≡ get cmp old other
same_get cmp old new other same = ap (λ entries. lookup (is_at (cmp other)) entries) same

pub same_times : {K : Type 0} (cmp : K → K → Ordering) (old new : BTreeMap K (List ℤ)) → new.entries ≡ old.entries → SameTimes cmp old new
same_times cmp old new same = record {
  times = λ other passes. ap (λ (found : Option (List ℤ)). length (filter passes (unwrap_or found []))) (same_get cmp old new other same);
  no_empty = λ none other empty. none other (sym (same_get cmp old new other same) ∙ empty);
  keys = λ key had has. ap (λ entries. unwrap_or (lookup_key (is_at (cmp key)) entries) key) same;
}

-- one less, and then the same
pub less_then_same : {K : Type 0} (cmp : K → K → Ordering) (old mid new : BTreeMap K (List ℤ)) (key : K) (time : ℤ) → TakesTime cmp old mid key time → SameTimes cmp mid new
    → TakesTime cmp old new key time
less_then_same cmp old mid new key time less same = record {
  times = λ other passes. let now = less.times other passes in let still = same.times other passes in omega arith;
  no_empty = λ none. same.no_empty (less.no_empty none);
  keys = λ other had has.
      let still = same.times other (λ (time : ℤ). true) in
      same.keys other (omega arith) has ∙ less.keys other had (omega arith);
}

-- the same, and then one less
pub same_then_less : {K : Type 0} (cmp : K → K → Ordering) (old mid new : BTreeMap K (List ℤ)) (key : K) (time : ℤ) → SameTimes cmp old mid → TakesTime cmp mid new key time
    → TakesTime cmp old new key time
same_then_less cmp old mid new key time same less = record {
  times = λ other passes. less.times other passes ∙ same.times other passes;
  no_empty = λ none. less.no_empty (same.no_empty none);
  keys = λ other had has.
      let still = same.times other (λ (time : ℤ). true) in
      less.keys other (omega arith) has ∙ same.keys other had (omega arith);
}

-- one more, and one less
pub more_then_less : {K : Type 0} (cmp : K → K → Ordering) (old mid new : BTreeMap K (List ℤ)) (key : K) (time : ℤ) → AddsTime cmp old mid key time → TakesTime cmp mid new key time
    → SameTimes cmp old new
more_then_less cmp old mid new key time more less = record {
  times = λ other passes. let one = more.times other passes in let now = less.times other passes in omega arith;
  no_empty = λ none. less.no_empty (more.no_empty none);
  keys = λ other had has.
      let now = more.times other (λ (time : ℤ). true) in
      less.keys other (omega arith) has ∙ more.keys other had (omega arith);
}

-- ---- a time among others

is_time : ℤ → ℤ → Bool
is_time time other = not (int_lt other time) && not (int_lt time other)

both_hold : (a b : Bool) → (a && b) ≡ true → (a ≡ true) × (b ≡ true)
both_hold true b e = (refl, e)
both_hold false b e = absurd (cc)

not_early : (time other : ℤ) → not (int_lt other time) ≡ true → not (int_lt time other) ≡ true → other ≡ time
not_early time other one both = grind (arith, ints)

same_time : (time other : ℤ) → (not (int_lt other time) && not (int_lt time other)) ≡ true → other ≡ time
same_time time other e = let h = both_hold (not (int_lt other time)) (not (int_lt time other)) e in not_early time other h.0 h.1

own_time : (time : ℤ) → (not (int_lt time time) && not (int_lt time time)) ≡ true
own_time time = grind (arith, ints)

there_by : (b : Bool) (time x : ℤ) (xs : List ℤ) → (not (int_lt x time) && not (int_lt time x)) ≡ b
    → 0 < length (cond b (x ∷ filter (λ (t : ℤ). not (int_lt t time) && not (int_lt time t)) xs) (filter (λ (t : ℤ). not (int_lt t time) && not (int_lt time t)) xs))
    → (0 < length (filter (λ (t : ℤ). not (int_lt t time) && not (int_lt time t)) xs) → Contains xs time) → Contains (x ∷ xs) time
there_by true time x xs is some rest = (zero, omega arith, same_time time x is)
there_by false time x xs is some rest = let more = rest some in (suc more.0, (let within = more.1 in omega arith), more.2)

-- a time that is counted is there
pub time_there : (time : ℤ) (times : List ℤ) → 0 < length (filter (λ (t : ℤ). not (int_lt t time) && not (int_lt time t)) times) → Contains times time
time_there time [] some = absurd (omega arith)
time_there time (x ∷ xs) some = there_by (not (int_lt x time) && not (int_lt time x)) time x xs refl some (time_there time xs)

pub none_there : (times : List ℤ) → length times ≤ 0 → times ≡ []
none_there [] none = refl
none_there (x ∷ times) none = absurd (omega arith)

-- one that is there alone
alone : (times : List ℤ) (time : ℤ) → length times ≤ 1 → Contains times time → times ≡ time ∷ []
alone [] time few there = let within = there.1 in absurd (omega arith)
alone (x ∷ y ∷ times) time few there = absurd (omega arith)
alone (x ∷ []) time few (zero, within, is) = ap (λ (it : ℤ). it ∷ []) is
alone (x ∷ []) time few (suc k, within, is) = absurd (omega arith)

few_left : (n : ℕ) (answer : Bool) → answer ≡ false → (1 < n → answer ≡ true) → n ≤ 1
few_left zero answer kept more = omega arith
few_left (suc zero) answer kept more = omega arith
few_left (suc (suc n)) answer kept more = let yes = more (omega arith) in absurd (cc)

-- one that is there and isn't taken, since it has no others
pub only_one : (answer : Bool) (times : List ℤ) (time : ℤ) → answer ≡ false → Contains times time → (1 < length times → answer ≡ true) → times ≡ time ∷ []
only_one answer times time kept there more = alone times time (few_left (length times) answer kept more) there

-- what holds anyway holds of an error
pub on_err : {A E : Type 0} {P : Type 0} (answer : Result A E) → P → OnErr answer P
on_err (Ok x) is = tt
on_err (Err e) is = is

-- ---- what is held

swap_tests : (a b : Bool) → weighed (a && b) ≡ weighed (b && a)
swap_tests true true = refl
swap_tests true false = refl
swap_tests false true = refl
swap_tests false false = refl

module _ (cmp : TwoNames → TwoNames → Ordering) where
  pub timed_none : (stamps : List Stamp) (times : BTreeMap TwoNames (List ℤ)) → stamps ≡ [] → ((names : TwoNames) → times_by cmp times names ≡ []) → HasNoEmpty cmp times
      → AreTimed cmp stamps times
  timed_none stamps times is none no_empty = record {
    each = λ names passes. ap (λ (list : List ℤ). length (filter passes list)) (none names)
        ∙ ap (λ (list : List Stamp). length (filter (λ stamp. passes stamp.time && is_at (cmp (names_of stamp)) names) list)) (sym is);
    no_empty = no_empty;
  }

  pub timed_still : (stamps : List Stamp) (before after : BTreeMap TwoNames (List ℤ)) → AreTimed cmp stamps before → SameTimes cmp before after → AreTimed cmp stamps after
  timed_still stamps before after timed same = record {
    each = λ names passes. same.times names passes ∙ timed.each names passes;
    no_empty = same.no_empty timed.no_empty;
  }

  pub timed_more : (old new : List Stamp) (before after : BTreeMap TwoNames (List ℤ)) (added : Stamp) → AreTimed cmp old before → IsPermutation (added ∷ old) new
      → AddsTime cmp before after (names_of added) added.time → AreTimed cmp new after
  timed_more old new before after added timed moved adds = record {
    each = λ names passes.
        let one = one_more (λ (stamp : Stamp). passes stamp.time && is_at (cmp (names_of stamp)) names) added old new moved in
        let was = timed.each names passes in
        let now = adds.times names passes in
        let swapped = swap_tests (passes added.time) (is_at (cmp (names_of added)) names) in
        omega arith;
    no_empty = adds.no_empty timed.no_empty;
  }

  pub timed_less : (first : Stamp) (rest : List Stamp) (before after : BTreeMap TwoNames (List ℤ)) → AreTimed cmp (first ∷ rest) before
      → TakesTime cmp before after (names_of first) first.time → AreTimed cmp rest after
  timed_less first rest before after timed takes = record {
    each = λ names passes.
        let all = filter_longer (λ (stamp : Stamp). passes stamp.time && is_at (cmp (names_of stamp)) names) first rest in
        let was = timed.each names passes in
        let now = takes.times names passes in
        let swapped = swap_tests (passes first.time) (is_at (cmp (names_of first)) names) in
        omega arith;
    no_empty = takes.no_empty timed.no_empty;
  }

  module _ (total : IsTotalOrder cmp) where
    own_key : (names : TwoNames) → is_at (cmp names) names ≡ true
    own_key names = ap is_eq (tied_itself total names)

    -- what was added is there
    pub added_there : (old new : BTreeMap TwoNames (List ℤ)) (names : TwoNames) (time : ℤ) → AddsTime cmp old new names time → Contains (times_by cmp new names) time
    added_there old new names time adds =
        time_there time (times_by cmp new names)
        (let now = adds.times names (λ (t : ℤ). not (int_lt t time) && not (int_lt time t)) in
        let one : one_at cmp names names (not (int_lt time time) && not (int_lt time time)) ≡ 1 =
        ap (λ (at : Bool). cond (at && (not (int_lt time time) && not (int_lt time time))) 1 0) (own_key names) ∙ ap (λ (at : Bool). cond at 1 0) (own_time time) in
        omega arith)

    -- the first stamp's time is there
    pub first_timed : (first : Stamp) (rest : List Stamp) (times : BTreeMap TwoNames (List ℤ)) → AreTimed cmp (first ∷ rest) times
        → Contains (times_by cmp times (names_of first)) first.time
    first_timed first rest times timed =
        time_there first.time (times_by cmp times (names_of first))
        (let passes : ℤ → Bool = λ (t : ℤ). not (int_lt t first.time) && not (int_lt first.time t) in
        let is = timed.each (names_of first) (λ (t : ℤ). not (int_lt t first.time) && not (int_lt first.time t)) in
        let all = filter_longer (λ (stamp : Stamp). (not (int_lt stamp.time first.time) && not (int_lt first.time stamp.time)) && is_at (cmp (names_of stamp)) (names_of first)) first rest in
        let one : weighed ((not (int_lt first.time first.time) && not (int_lt first.time first.time)) && is_at (cmp (names_of first)) (names_of first)) ≡ 1 =
        ap (λ (at : Bool). weighed (at && is_at (cmp (names_of first)) (names_of first))) (own_time first.time) ∙ ap (λ (at : Bool). weighed at) (own_key (names_of first)) in
        omega arith)

-- one more that isn't before a moment
pub none_before : (oldest : ℤ) (old new now : List Stamp) (added : Stamp) → IsPermutation (added ∷ old) new → old ≡ now → oldest ≤ℤ added.time
    → number_before None oldest new ≡ number_before None oldest now
none_before oldest old new now added moved same recent =
    let one = one_more (is_before oldest) added old new moved in
    let later : weighed (is_before oldest added) ≡ 0 = ap weighed (late_is oldest added recent) in
    let few = all_of_none (filter (is_before oldest) new) in
    let were = all_of_none (filter (is_before oldest) old) in
    let whole = ap (λ (stamps : List Stamp). number_before None oldest stamps) same in
    omega arith

-- how many of a client there are, and how many since a moment
pub number_of_client : (client : RealmAndName) (names : TwoNames) (stamps : List Stamp) (times : BTreeMap TwoNames (List ℤ)) → names.1 ≡ client → AreTimed client_cmp stamps times
    → length (times_by client_cmp times names) ≡ number_of (Some client) stamps
number_of_client client names stamps times is timed =
    sym (all_pass (times_by client_cmp times names)) ∙ (timed.each names (λ (time : ℤ). true)
    ∙ ap (λ (name : RealmAndName). number_of (Some name) stamps) is)

pub number_since_of : (client : RealmAndName) (names : TwoNames) (oldest : ℤ) (stamps : List Stamp) (times : BTreeMap TwoNames (List ℤ)) → names.1 ≡ client → AreTimed client_cmp stamps times
    → number_by client_cmp times names (is_recent oldest) ≡ number_of (Some client) (since oldest stamps)
number_since_of client names oldest stamps times is timed =
    timed.each names (is_recent oldest)
    ∙ (ap (λ (list : List Stamp). length list)
    (sym (both_kept (λ stamp. is_at (client_cmp (names_of stamp)) names) (λ stamp. not (is_before oldest stamp)) (λ stamp. is_recent oldest stamp.time && is_at (client_cmp (names_of stamp)) names)
    (λ stamp. refl) stamps))
    ∙ ap (λ (name : RealmAndName). number_of (Some name) (since oldest stamps)) is)

-- a stamp is added
pub added_by : (old new : List Stamp) (added : Stamp) → IsPermutation (added ∷ old) new → AddsStamp (Contains old) (Contains new) added
added_by old new added moved stamp = (
  λ there. elim (first_or_rest added old stamp (Contains-permutation new (added ∷ old) stamp (IsPermutation-sym (added ∷ old) new moved) there)) [
    | inl same ↦ inl (sym same)
    | inr before ↦ inr before
  ],
  λ either. Contains-permutation (added ∷ old) new stamp moved (elim either [
    | inl same ↦ (zero, omega arith, sym same)
    | inr before ↦ among_rest added old stamp before
  ]),
)

-- what a look-up finds
pub found_by : (held stamps : List Stamp) (stamp : Stamp) (answer : Bool) → held ≡ stamps → (answer ≡ true → HasEqual (λ (one : Stamp). one.time) (eq_by_cmp stamp_cmp) held stamp)
    → (answer ≡ false → LacksEqual (λ (one : Stamp). one.time) (eq_by_cmp stamp_cmp) held stamp)
    → (answer ≡ true → Contains stamps stamp) × (Contains stamps stamp → answer ≡ true)
found_by held stamps stamp true same found lacks = (
  λ yes. let has = found yes in
      subst (λ (list : List Stamp). Contains list stamp) same (subst (λ (one : Stamp). Contains held one) (tells_apart exact_stamps has.one stamp has.equal) has.there),
  λ there. refl,
)
found_by held stamps stamp false same found lacks = (
  λ yes. absurd (cc),
  λ there.
      let none = All-contains (λ (one : Stamp). one.time ≡ stamp.time → eq_by_cmp stamp_cmp one stamp ≡ false) held stamp (lacks refl)
      (subst (λ (list : List Stamp). Contains list stamp) (sym same) there) refl in
      let own : eq_by_cmp stamp_cmp stamp stamp ≡ true = ap is_eq (tied_itself stamp_total stamp) in
      absurd (cc),
)
