-- A thing is found by its name: none before it has the name.
use Rattle.std.proofs.Common.{◌≡◌, ℕ, suc, ◌+◌, ◌<◌, ◌≤◌, List, ◌∷◌, ◌++◌, length, map, take, drop, get_or, inl, inr, sym, ap, ◌∙◌, arith}
use Rattle.std.specs.Prelude.{◌≢◌, All, MatchOption, Option, Some, None}
use Rattle.std.proofs.Math.Seq.{drop-cons}
use Rattle.std.proofs.lemmas.Bool.{cases_lt}
use Rattle.std.proofs.lemmas.List.{get_or-drop, get_or-map, get_or-take, length-drop, length-map, length-take, take-append-drop}
use Rattle.krb_index.specs.Places.{IsFirstEqual, NoneEqual}
use Rattle.krb_name.specs.Name.{SameName, name_hash}
use Rattle.krb_name.specs.Named.{HasOtherName, IsFirstNamed}
use Rattle.krb_name.specs.Inner.Named.{OthersBetween}
use Rattle.krb_name.specs.declared.principal.Principal.{Principal}
use Rattle.krb_name.proofs.Names.{same_hash}

module _ {X : Type 0} (name_of : X → Principal) (xs : List X) (name : Principal) (from : ℕ) where
  -- a name of another hash is another
  other_hashes : (hashes : List ℕ) (to : ℕ) → hashes ≡ map (λ one. name_hash (name_of one)) xs → ((k : ℕ) → from ≤ k → k < to → k < length xs → get_or hashes k 0 ≢ name_hash name) → OthersBetween name_of xs name from to
  other_hashes hashes to are others = λ k one ge lt within same.
      others k ge lt within (ap (λ (l : List ℕ). get_or l k 0) are ∙ get_or-map (λ (x : X). name_hash (name_of x)) xs k one 0 within ∙ same_hash (name_of (get_or xs k one)) name same)

  pub by_hash : (hashes : List ℕ) (result : Option ℕ) → hashes ≡ map (λ one. name_hash (name_of one)) xs → MatchOption result (NoneEqual hashes (name_hash name) from) (IsFirstEqual hashes (name_hash name) from)
      → MatchOption result (OthersBetween name_of xs name from (length xs)) (λ at. (from ≤ at) × (at < length xs) × OthersBetween name_of xs name from at)
  by_hash hashes None are none = other_hashes hashes (length xs) are (λ k ge lt within. none k ge (omega (arith, ap length are, length-map xs (λ (x : X). name_hash (name_of x)))))
  by_hash hashes (Some at) are first = (
    first.forward,
    omega (arith, first.within, ap length are, length-map xs (λ (x : X). name_hash (name_of x))),
    other_hashes hashes at are (λ k ge lt within. first.between k ge lt),
  )

  all_others : (to : ℕ) → OthersBetween name_of xs name from to → All (HasOtherName name_of name) (drop from (take to xs))
  all_others to others = λ k d within.
      let below : from + k < to = omega (arith, length-drop from (take to xs), length-take to xs) in
      let inside : from + k < length xs = omega (arith, length-drop from (take to xs), length-take to xs) in
      rw (get_or-drop from (take to xs) k d, get_or-take to xs (from + k) d below) (others (from + k) d (omega arith) below inside)

  -- the next ones have other names too
  pub others_on : (next to : ℕ) → OthersBetween name_of xs name from next → OthersBetween name_of xs name next to → OthersBetween name_of xs name from to
  others_on next to others more = λ k one ge lt within. elim (cases_lt k next) [
    | inl before ↦ others k one ge before within
    | inr behind ↦ more k one behind lt within
  ]

  module _ (at : ℕ) (forward : from ≤ at) (one : X) (within : at < length xs) (is : one ≡ get_or xs at one) (others : OthersBetween name_of xs name from at) where
    pub is_first : SameName (name_of one) name → IsFirstNamed name_of xs name from at
    is_first same = record {
      before = take at xs;
      one = one;
      after = drop (suc at) xs;
      items_are = sym (take-append-drop at xs) ∙ ap (λ t. take at xs ++ t) (drop-cons xs at one within ∙ ap (λ y. y ∷ drop (suc at) xs) (sym is));
      at_is = omega (arith, length-take at xs, within);
      forward = forward;
      same = same;
      others = all_others at others;
    }
