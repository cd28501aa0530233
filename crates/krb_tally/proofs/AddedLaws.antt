-- Adding a time to those of one owner.
use Rattle.std.proofs.Common.{◌≡◌, ◌<◌, ℤ, Result, Ok, Err, List, [], ◌∷◌, OnOk, arith, length, subst, sym}
use Rattle.std.specs.List.Sorted.{IsPermutation}
use Rattle.std.proofs.lemmas.List.Sorted.{IsPermutation-cons, IsPermutation-sym, IsPermutation-to_front, IsPermutation-trans, length_permutation}
use Rattle.krb_tally.specs.Inner.Buckets.{AddsIn}
use Rattle.krb_tally.proofs.BucketLaws.{adds_one}

-- one more time, as a call says it
pub one_more : (when : ℤ → ℤ) (old was new now : List ℤ) (said time : ℤ) → said ≡ time → was ≡ old → new ≡ now → AddsIn when was said new → IsPermutation (time ∷ old) now
one_more when old was new now said time t same is more =
    subst (λ (one : ℤ). IsPermutation (one ∷ old) now) t
    (subst (λ (items : List ℤ). IsPermutation (said ∷ items) now) same
    (subst (λ (items : List ℤ). IsPermutation (said ∷ was) items) is (adds_one when was new said more)))

pub more_ok : {X E : Type 0} (answer : Result X E) (when : ℤ → ℤ) (old was new : List ℤ) (said time : ℤ) → said ≡ time → was ≡ old → OnOk answer (AddsIn when was said new)
    → OnOk answer (IsPermutation (time ∷ old) new)
more_ok (Ok x) when old was new said time t same more = one_more when old was new new said time t same (λ i. new) more
more_ok (Err e) when old was new said time t same more = tt

-- one more, where the others are in another order
pub one_more_of : (when : ℤ → ℤ) (old was new : List ℤ) (said time : ℤ) → said ≡ time → IsPermutation old was → AddsIn when was said new → IsPermutation (time ∷ old) new
one_more_of when old was new said time t same more =
    subst (λ (one : ℤ). IsPermutation (one ∷ old) new) t
    (IsPermutation-trans (said ∷ old) (said ∷ was) new (IsPermutation-cons said old was same) (adds_one when was new said more))

-- two times in the other order
pub swapped : (one other : ℤ) → IsPermutation (one ∷ other ∷ []) (other ∷ one ∷ [])
swapped one other = IsPermutation-to_front (one ∷ []) other

-- the same of times that are as others say
pub in_place : (times : List ℤ) (said_one said_other one other : ℤ) → times ≡ said_one ∷ said_other ∷ [] → said_one ≡ one → said_other ≡ other → IsPermutation (other ∷ one ∷ []) times
in_place times said_one said_other one other are is also =
    subst (λ (list : List ℤ). IsPermutation (other ∷ one ∷ []) list) (sym are)
    (subst (λ (a : ℤ). IsPermutation (other ∷ one ∷ []) (a ∷ said_other ∷ [])) (sym is)
    (subst (λ (b : ℤ). IsPermutation (other ∷ one ∷ []) (one ∷ b ∷ [])) (sym also) (swapped other one)))

pub second_first : (times : List ℤ) (first second said time : ℤ) → times ≡ first ∷ second ∷ [] → said ≡ first → time ≡ second → IsPermutation times (time ∷ said ∷ [])
second_first times first second said time are is also =
    IsPermutation-sym (time ∷ said ∷ []) times (in_place times first second said time are (sym is) (sym also))

-- so few
pub two_of_few : (one other : ℤ) (times : List ℤ) → IsPermutation (one ∷ other ∷ []) times → length times < 1024
two_of_few one other times same = let long = length_permutation (one ∷ other ∷ []) times same in omega arith

-- two times as others say them
pub put_together : (times all : List ℤ) (first second said_one said_other : ℤ) → times ≡ first ∷ second ∷ [] → said_one ≡ first → said_other ≡ second → IsPermutation (said_one ∷ said_other ∷ []) all
    → IsPermutation times all
put_together times all first second said_one said_other are is also same =
    subst (λ (list : List ℤ). IsPermutation list all) (sym are)
    (subst (λ (a : ℤ). IsPermutation (a ∷ second ∷ []) all) is (subst (λ (b : ℤ). IsPermutation (said_one ∷ b ∷ []) all) also same))
