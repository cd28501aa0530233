-- Removing a time, if it is there and isn't the only one; and that there is still one.
use Rattle.std.proofs.Common.{◌≡◌, ◌≢◌, ◌<◌, ◌∙◌, zero, ℤ, Bool, true, false, Option, Some, None, Result, Ok, Err, List, [], ◌∷◌, All, Contains, MatchOption, OnErr, OnOk, length, refl, sym, subst, ap, arith}
use Rattle.std.specs.Option.{is_some}
use Rattle.std.specs.List.Sorted.{IsPermutation}
use Rattle.std.proofs.lemmas.List.Elements.{All-contains}
use Rattle.std.proofs.lemmas.List.Sorted.{Contains-permutation, IsPermutation-sym, length_permutation}
use Rattle.krb_tally.specs.Inner.Removal.{Removes}

-- it is the only one
pub alone : (old : List ℤ) (time : ℤ) → length old < 2 → Removes old time false old
alone old time few = record {
  there = λ e. absurd (cc);
  others = λ e. absurd (cc);
  always = λ there more. absurd (omega arith);
  removed = λ e. absurd (cc);
  kept = λ e. refl;
}

-- it isn't there
pub lacking : (old : List ℤ) (time : ℤ) → All (λ item. item ≢ time) old → Removes old time false old
lacking old time lacks = record {
  there = λ e. absurd (cc);
  others = λ e. absurd (cc);
  always = λ there more. absurd (All-contains (λ item. item ≢ time) old time lacks there refl);
  removed = λ e. absurd (cc);
  kept = λ e. refl;
}

-- it is there, and goes
pub gone : (old new : List ℤ) (time : ℤ) → 1 < length old → Contains old time → IsPermutation old (time ∷ new) → Removes old time true new
gone old new time more here less = record {
  there = λ e. here;
  others = λ e. more;
  always = λ there also. refl;
  removed = λ e. less;
  kept = λ e. absurd (cc);
}

-- one of two goes
pub one_of_two : (old was : List ℤ) (time said other : ℤ) → was ≡ old → said ≡ time → IsPermutation was (said ∷ other ∷ []) → Contains old time × (1 < length old)
one_of_two old was time said other same t less =
    let also : IsPermutation old (time ∷ other ∷ []) =
    subst (λ (times : List ℤ). IsPermutation times (time ∷ other ∷ [])) same (subst (λ (one : ℤ). IsPermutation was (one ∷ other ∷ [])) t less) in
    let long = length_permutation old (time ∷ other ∷ []) also in (
      Contains-permutation (time ∷ other ∷ []) old time (IsPermutation-sym old (time ∷ other ∷ []) also) (zero, omega arith, refl),
      omega arith,
    )

-- what a tally answers
pub taken_out : (answer : Option ℤ) (old new : List ℤ) (said time : ℤ) → said ≡ time → 1 < length old
    → MatchOption answer (All (λ item. item ≢ said) old) (λ item. item ≡ said)
    → MatchOption answer (new ≡ old) (λ item. IsPermutation old (item ∷ new)) → Removes old time (is_some answer) new
taken_out None old new said time t more lacks same =
    subst (λ (list : List ℤ). Removes old time false list) (sym same) (lacking old time (subst (λ (one : ℤ). All (λ item. item ≢ one) old) t lacks))
taken_out (Some item) old new said time t more is others =
    let less : IsPermutation old (time ∷ new) = subst (λ (one : ℤ). IsPermutation old (one ∷ new)) (is ∙ t) others in
    gone old new time more (Contains-permutation (time ∷ new) old time (IsPermutation-sym old (time ∷ new) less) (zero, omega arith, refl)) less

-- the same of the times as others see them
pub removes_as : (old was new now : List ℤ) (time : ℤ) (said answer : Bool) → was ≡ old → now ≡ new → answer ≡ said
    → Removes was time said new → Removes old time answer now
removes_as old was new now time said answer same is says removes =
    subst (λ (times : List ℤ). Removes times time answer now) same
    (subst (λ (times : List ℤ). Removes was time answer times) (sym is) (subst (λ (one : Bool). Removes was time one new) (sym says) removes))

-- there is still one
pub still_some : (old new : List ℤ) (time : ℤ) (answer : Bool) → Removes old time answer new → 0 < length old → 0 < length new
still_some old new time true removes some =
    let more = removes.others refl in
    let long = length_permutation old (time ∷ new) (removes.removed refl) in
    omega arith
still_some old new time false removes some = let long = ap (λ (times : List ℤ). length times) (removes.kept refl) in omega arith

-- there is one after one more
pub one_more_some : (old new : List ℤ) (time : ℤ) → IsPermutation (time ∷ old) new → 0 < length new
one_more_some old new time more = let long = length_permutation (time ∷ old) new more in omega arith

pub added_some : {X E : Type 0} (answer : Result X E) (old new : List ℤ) (time : ℤ) → 0 < length old → OnOk answer (IsPermutation (time ∷ old) new)
    → OnErr answer (new ≡ old) → 0 < length new
added_some (Ok x) old new time some more same = one_more_some old new time more
added_some (Err e) old new time some more same = let long = ap (λ (times : List ℤ). length times) same in omega arith
