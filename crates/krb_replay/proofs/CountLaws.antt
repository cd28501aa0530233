-- The counts after one more tuple or one less.
use Rattle.std.proofs.Common.{◌≡◌, ◌≢◌, ℕ, ◌+◌, ◌<◌, ◌-◌, Bool, true, false, cond, Option, Some, None, List, [], ◌∷◌, refl, sym, ap, ◌∙◌, arith}
use Rattle.std.specs.Ordering.{is_eq}
use Rattle.std.specs.declared.cmp.Ordering.{Ordering}
use Rattle.std.specs.declared.cmp.Ordering.TheVariants.{Less, Equal, Greater}
use Rattle.std.specs.Cmp.{IsTotalOrder}
use Rattle.std.specs.Option.{unwrap_or}
use Rattle.std.specs.Map.{lookup}
use Rattle.std.specs.BTreeMap.{BTreeMap, Updates, get, is_at}
use Rattle.std.proofs.lemmas.Cmp.{tied_itself}
use Rattle.krb_replay.specs.Inner.Counts.{AddsOne, HasNoZero, SameCounts, TakesOne, count_by, one_by}

is_tie : (o : Ordering) → is_eq o ≡ true → o ≡ Equal
is_tie Less e = absurd (cc)
is_tie Equal e = refl
is_tie Greater e = absurd (cc)

pub more_than_none : (n : ℕ) → Some (n + 1) ≢ Some 0
more_than_none n e = let none : n + 1 ≡ 0 = ap (λ (o : Option ℕ). unwrap_or o 1) e in absurd (omega arith)

pub one_less_than : (n : ℕ) → 1 < n → Some (n - 1) ≢ Some 0
one_less_than n above e = let none : n - 1 ≡ 0 = ap (λ (o : Option ℕ). unwrap_or o 1) e in absurd (omega arith)

pub none_is_no_zero : (value : Option ℕ) → value ≡ None → value ≢ Some 0
none_is_no_zero None is zero = cc
none_is_no_zero (Some x) is zero = cc

at_value : (at : Bool) (found old value : Option ℕ) → found ≡ cond at value old → value ≢ Some 0 → old ≢ Some 0 → found ≢ Some 0
at_value true found old value is apart none zero = apart (sym is ∙ zero)
at_value false found old value is apart none zero = none (sym is ∙ zero)

module _ {K : Type 0} (cmp : K → K → Ordering) (total : IsTotalOrder cmp) where
  same_lookup : (key other : K) → cmp key other ≡ Equal → (entries : List (K × ℕ)) → lookup (is_at (cmp key)) entries ≡ lookup (is_at (cmp other)) entries
  same_lookup key other same [] = refl
  same_lookup key other same (e ∷ es) =
      ap (λ (at : Bool). cond at (Some e.1) (lookup (is_at (cmp key)) es)) (ap is_eq (total.congr key other e.0 same))
      ∙ ap (λ (found : Option ℕ). cond (is_at (cmp other) e.0) (Some e.1) found) (same_lookup key other same es)

  -- equal keys have one count
  same_key : (counts : BTreeMap K ℕ) (key other : K) → is_at (cmp key) other ≡ true → count_by cmp counts key ≡ count_by cmp counts other
  same_key counts key other same = ap (λ (found : Option ℕ). unwrap_or found 0) (same_lookup key other (is_tie (cmp key other) same) counts.entries)

  hit : (old new : BTreeMap K ℕ) (key other : K) (value : Option ℕ) → Updates cmp old new key value
      → is_at (cmp key) other ≡ true → count_by cmp new other ≡ unwrap_or value 0
  hit old new key other value updates same =
      ap (λ (found : Option ℕ). unwrap_or found 0)
      (updates.0 other ∙ ap (λ (at : Bool). cond at value (get cmp old other)) same)

  missed : (old new : BTreeMap K ℕ) (key other : K) (value : Option ℕ) → Updates cmp old new key value
      → is_at (cmp key) other ≡ false → count_by cmp new other ≡ count_by cmp old other
  missed old new key other value updates apart = ap (λ (found : Option ℕ). unwrap_or found 0) (updates.2 other apart)

  no_zero_after : (old new : BTreeMap K ℕ) (key : K) (value : Option ℕ) → Updates cmp old new key value → value ≢ Some 0 → HasNoZero cmp old → HasNoZero cmp new
  no_zero_after old new key value updates apart none other =
      at_value (is_at (cmp key) other) (get cmp new other) (get cmp old other) value (updates.0 other) apart (none other)

  more_at : (at : Bool) (old new : BTreeMap K ℕ) (key other : K) → Updates cmp old new key (Some (count_by cmp old key + 1))
      → is_at (cmp key) other ≡ at → count_by cmp new other ≡ count_by cmp old other + cond at 1 0
  more_at true old new key other updates is =
      let now = hit old new key other (Some (count_by cmp old key + 1)) updates is in
      let before = same_key old key other is in
      omega arith
  more_at false old new key other updates is =
      let now = missed old new key other (Some (count_by cmp old key + 1)) updates is in
      omega arith

  pub one_more : (old new : BTreeMap K ℕ) (key : K) → Updates cmp old new key (Some (count_by cmp old key + 1)) → AddsOne cmp old new key
  one_more old new key updates = record {
    counts = λ other. more_at (is_at (cmp key) other) old new key other updates refl;
    no_zero = no_zero_after old new key (Some (count_by cmp old key + 1)) updates (more_than_none (count_by cmp old key));
  }

  less_at : (at : Bool) (old new : BTreeMap K ℕ) (key other : K) (value : Option ℕ) → Updates cmp old new key value
      → unwrap_or value 0 + 1 ≡ count_by cmp old key
      → is_at (cmp key) other ≡ at → count_by cmp new other + cond at 1 0 ≡ count_by cmp old other
  less_at true old new key other value updates less is =
      let now = hit old new key other value updates is in
      let before = same_key old key other is in
      omega arith
  less_at false old new key other value updates less is =
      let now = missed old new key other value updates is in
      omega arith

  pub one_less : (old new : BTreeMap K ℕ) (key : K) (value : Option ℕ) → Updates cmp old new key value
      → unwrap_or value 0 + 1 ≡ count_by cmp old key → value ≢ Some 0 → TakesOne cmp old new key
  one_less old new key value updates less apart = record {
    counts = λ other. less_at (is_at (cmp key) other) old new key other value updates less refl;
    no_zero = no_zero_after old new key value updates apart;
  }

  -- each has its own key
  pub own : (key : K) → one_by cmp key key ≡ 1
  own key = ap (λ (o : Ordering). cond (is_eq o) 1 0) (tied_itself total key)

  pub some_counted : (old new : BTreeMap K ℕ) (key : K) → AddsOne cmp old new key → 0 < count_by cmp new key
  some_counted old new key more = let one = own key in let now = more.counts key in omega arith

-- the same entries are the same counts
same_get : {K : Type 0} (cmp : K → K → Ordering) (old new : BTreeMap K ℕ) (other : K) → new.entries ≡ old.entries → get cmp new other ≡ get cmp old other
same_get cmp old new other same = ap (λ entries. lookup (is_at (cmp other)) entries) same

pub same_counts : {K : Type 0} (cmp : K → K → Ordering) (old new : BTreeMap K ℕ) → new.entries ≡ old.entries → SameCounts cmp old new
same_counts cmp old new same = record {
  counts = λ other. ap (λ (found : Option ℕ). unwrap_or found 0) (same_get cmp old new other same);
  no_zero = λ none other zero. none other (sym (same_get cmp old new other same) ∙ zero);
}

-- one less, and then the same
pub less_and_same : {K : Type 0} (cmp : K → K → Ordering) (old mid new : BTreeMap K ℕ) (key : K) → TakesOne cmp old mid key → SameCounts cmp mid new
    → TakesOne cmp old new key
less_and_same cmp old mid new key less same = record {
  counts = λ other. let now = less.counts other in let still = same.counts other in omega arith;
  no_zero = λ none. same.no_zero (less.no_zero none);
}

-- one more, and one less
pub more_and_less : {K : Type 0} (cmp : K → K → Ordering) (old mid new : BTreeMap K ℕ) (key : K) → AddsOne cmp old mid key → TakesOne cmp mid new key
    → SameCounts cmp old new
more_and_less cmp old mid new key more less = record {
  counts = λ other. let one = more.counts other in let now = less.counts other in omega arith;
  no_zero = λ none. less.no_zero (more.no_zero none);
}
