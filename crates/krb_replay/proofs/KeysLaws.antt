-- Which keys a map keeps after one is inserted, is removed or gets another value.
use Rattle.std.proofs.Common.{◌≡◌, Bool, true, false, cond, Option, Some, None, List, [], ◌∷◌, refl, sym, ap, ◌∙◌}
use Rattle.std.specs.Cmp.{IsTotalOrder}
use Rattle.std.specs.Map.{keys_of, lookup, lookup_key, remove_entry}
use Rattle.std.specs.BTreeMap.{insert_entry, is_at}
use Rattle.std.specs.Ordering.{is_eq, match_ordering, ordering_reverse}
use Rattle.std.specs.declared.cmp.Ordering.{Ordering}
use Rattle.std.specs.declared.cmp.Ordering.TheVariants.{Less, Equal, Greater}
use Rattle.std.proofs.lemmas.Cmp.{tied_itself}

abbrev find_key : {K : Type 0} → (K → Bool) → List K → Option K
find_key test [] = None
find_key test (k ∷ ks) = cond (test k) (Some k) (find_key test ks)

module _ {K X : Type 0} where
  by_keys : (test : K → Bool) (entries : List (K × X)) → lookup_key test entries ≡ find_key test (keys_of entries)
  by_keys test [] = refl
  by_keys test (e ∷ es) = ap (λ (found : Option K). cond (test e.0) (Some e.0) found) (by_keys test es)

  -- the same keys
  pub same_found : (test : K → Bool) (old new : List (K × X)) → keys_of new ≡ keys_of old → lookup_key test new ≡ lookup_key test old
  same_found test old new same = by_keys test new ∙ (ap (λ (keys : List K). find_key test keys) same ∙ sym (by_keys test old))

  none_at : (at : Bool) (key : K) (value : X) (found : Option X) (kept : Option K) → cond at (Some value) found ≡ None → (found ≡ None → kept ≡ None)
      → cond at (Some key) kept ≡ None
  none_at true key value found kept none rest = absurd (cc)
  none_at false key value found kept none rest = rest none

  -- what has no value has no key
  pub none_found : (test : K → Bool) (entries : List (K × X)) → lookup test entries ≡ None → lookup_key test entries ≡ None
  none_found test [] none = refl
  none_found test (e ∷ es) none = none_at (test e.0) e.0 e.1 (lookup test es) (lookup_key test es) none (none_found test es)

same_ways : (o : Ordering) → is_eq (ordering_reverse o) ≡ is_eq o
same_ways Less = refl
same_ways Equal = refl
same_ways Greater = refl

is_tie : (o : Ordering) → is_eq o ≡ true → o ≡ Equal
is_tie Less e = absurd (cc)
is_tie Equal e = refl
is_tie Greater e = absurd (cc)

first_none : {K : Type 0} (at : Bool) (key : K) (found : Option K) → cond at (Some key) found ≡ None → (at ≡ false) × (found ≡ None)
first_none true key found none = absurd (cc)
first_none false key found none = (refl, none)

module _ {K : Type 0} (cmp : K → K → Ordering) (total : IsTotalOrder cmp) where
  swapped : (key other : K) → is_at (cmp other) key ≡ is_at (cmp key) other
  swapped key other = ap is_eq (total.antisymm other key) ∙ same_ways (cmp key other)

  -- a third key is equal to one of two that differ
  other_apart : (key other third : K) → is_at (cmp key) other ≡ false → is_at (cmp key) third ≡ true → is_at (cmp other) third ≡ false
  other_apart key other third apart same =
      swapped third other ∙ (ap is_eq (sym (total.congr key third other (is_tie (cmp key third) same))) ∙ apart)

  own : (key : K) → is_at (cmp key) key ≡ true
  own key = ap is_eq (tied_itself total key)

module _ {K X : Type 0} (cmp : K → K → Ordering) (total : IsTotalOrder cmp) where
  inserted_at : (o : Ordering) (key other : K) (value : X) (e : K × X) (es more : List (K × X)) → is_at (cmp other) key ≡ false
      → lookup_key (is_at (cmp other)) more ≡ lookup_key (is_at (cmp other)) es
      → lookup_key (is_at (cmp other)) (match_ordering o ((key, value) ∷ e ∷ es) ((e.0, value) ∷ es) (e ∷ more)) ≡ lookup_key (is_at (cmp other)) (e ∷ es)
  inserted_at Less key other value e es more apart rest = ap (λ (at : Bool). cond at (Some key) (lookup_key (is_at (cmp other)) (e ∷ es))) apart
  inserted_at Equal key other value e es more apart rest = refl
  inserted_at Greater key other value e es more apart rest = ap (λ (found : Option K). cond (is_at (cmp other) e.0) (Some e.0) found) rest

  -- another key is inserted
  pub inserted_other : (key other : K) (value : X) → is_at (cmp key) other ≡ false → (entries : List (K × X))
      → lookup_key (is_at (cmp other)) (insert_entry cmp entries key value) ≡ lookup_key (is_at (cmp other)) entries
  inserted_other key other value apart [] = ap (λ (at : Bool). cond at (Some key) None) (swapped cmp total key other ∙ apart)
  inserted_other key other value apart (e ∷ es) =
      inserted_at (cmp key e.0) key other value e es (insert_entry cmp es key value) (swapped cmp total key other ∙ apart) (inserted_other key other value apart es)

  own_at : (o : Ordering) (key : K) (value : X) (e : K × X) (es more : List (K × X)) → cmp key e.0 ≡ o → is_at (cmp key) e.0 ≡ false
      → lookup_key (is_at (cmp key)) more ≡ Some key
      → lookup_key (is_at (cmp key)) (match_ordering o ((key, value) ∷ e ∷ es) ((e.0, value) ∷ es) (e ∷ more)) ≡ Some key
  own_at Less key value e es more is apart rest = ap (λ (at : Bool). cond at (Some key) (lookup_key (is_at (cmp key)) (e ∷ es))) (own cmp total key)
  own_at Equal key value e es more is apart rest = absurd (let same : is_at (cmp key) e.0 ≡ true = ap is_eq is in cc)
  own_at Greater key value e es more is apart rest = ap (λ (at : Bool). cond at (Some e.0) (lookup_key (is_at (cmp key)) more)) apart ∙ rest

  -- a key that wasn't there is inserted
  pub inserted_own : (key : K) (value : X) (entries : List (K × X)) → lookup_key (is_at (cmp key)) entries ≡ None
      → lookup_key (is_at (cmp key)) (insert_entry cmp entries key value) ≡ Some key
  inserted_own key value [] none = ap (λ (at : Bool). cond at (Some key) None) (own cmp total key)
  inserted_own key value (e ∷ es) none =
      let h = first_none (is_at (cmp key) e.0) e.0 (lookup_key (is_at (cmp key)) es) none in
      own_at (cmp key e.0) key value e es (insert_entry cmp es key value) refl h.0 (inserted_own key value es h.1)

  removed_at : (at : Bool) (key other : K) (e : K × X) (es less : List (K × X)) → is_at (cmp key) e.0 ≡ at → is_at (cmp key) other ≡ false
      → lookup_key (is_at (cmp other)) less ≡ lookup_key (is_at (cmp other)) es
      → lookup_key (is_at (cmp other)) (cond at es (e ∷ less)) ≡ lookup_key (is_at (cmp other)) (e ∷ es)
  removed_at true key other e es less is apart rest =
      sym (ap (λ (at : Bool). cond at (Some e.0) (lookup_key (is_at (cmp other)) es)) (other_apart cmp total key other e.0 apart is))
  removed_at false key other e es less is apart rest = ap (λ (found : Option K). cond (is_at (cmp other) e.0) (Some e.0) found) rest

  -- another key is removed
  pub removed_other : (key other : K) → is_at (cmp key) other ≡ false → (entries : List (K × X))
      → lookup_key (is_at (cmp other)) (remove_entry (is_at (cmp key)) entries) ≡ lookup_key (is_at (cmp other)) entries
  removed_other key other apart [] = refl
  removed_other key other apart (e ∷ es) =
      removed_at (is_at (cmp key) e.0) key other e es (remove_entry (is_at (cmp key)) es) refl apart (removed_other key other apart es)
