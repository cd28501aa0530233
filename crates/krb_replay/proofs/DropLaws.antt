-- Dropping the first of some stamps in order, which is too old.
use Rattle.std.proofs.Common.{◌≡◌, ◌⊎◌, inl, inr, zero, suc, ◌<◌, ℤ, ◌≤ℤ◌, ◌<ℤ◌, Option, Some, None, IsSome, IfSome, List, [], ◌∷◌, length, Contains, slice_get, sym, subst, ap, arith}
use Rattle.std.proofs.lemmas.Int.{ints}
use Rattle.krb_replay.specs.Stamp.{Stamp}

pub first_or_rest : (first : Stamp) (rest : List Stamp) (stamp : Stamp) → Contains (first ∷ rest) stamp
    → (first ≡ stamp) ⊎ Contains rest stamp
first_or_rest first rest stamp (zero, within, is) = inl is
first_or_rest first rest stamp (suc i, within, is) = inr (i, omega arith, is)

pub among_rest : (first : Stamp) (rest : List Stamp) (stamp : Stamp) → Contains rest stamp → Contains (first ∷ rest) stamp
among_rest first rest stamp (i, within, is) = (suc i, omega arith, is)

-- what stays is what was there and isn't too old
pub record StaysOf (all rest : List Stamp) (oldest : ℤ) : Type 0 where
  pub none_added : (stamp : Stamp) → Contains rest stamp → Contains all stamp
  pub kept : (stamp : Stamp) → Contains all stamp → oldest ≤ℤ stamp.time → Contains rest stamp

rest_stays : (all rest : List Stamp) (first : Stamp) (oldest : ℤ) → StaysOf all (first ∷ rest) oldest
    → first.time <ℤ oldest → StaysOf all rest oldest
rest_stays all rest first oldest stays old = record {
  none_added = λ stamp there. stays.none_added stamp (among_rest first rest stamp there);
  kept = λ stamp there recent. elim (first_or_rest first rest stamp (stays.kept stamp there recent)) [
    | inl is ↦ (let same : first.time ≡ stamp.time = ap (λ one. one.time) is in absurd (omega (arith, ints)))
    | inr there ↦ there
  ];
}

pub dropped : (all old new : List Stamp) (first : Stamp) (popped : Option Stamp) (oldest : ℤ) → StaysOf all old oldest
    → slice_get old 0 ≡ Some first → IfSome popped (λ one. old ≡ one ∷ new) → (0 < length old → IsSome popped)
    → first.time <ℤ oldest → StaysOf all new oldest
dropped all [] new first popped oldest stays is removal some old = absurd (cc)
dropped all (one ∷ rest) new first None oldest stays is removal some old = let there = some (omega arith) in absurd (cc)
dropped all (one ∷ rest) new first (Some taken) oldest stays is removal some old =
    subst (λ list. StaysOf all list oldest) (cc)
    (rest_stays all rest one oldest stays (let same : one ≡ first = cc in subst (λ (s : Stamp). s.time <ℤ oldest) (sym same) old))
