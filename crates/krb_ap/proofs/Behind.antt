-- What a service that was started again may have accepted before.
use Rattle.std.proofs.Common.{◌≡◌, ℕ, ℤ, pos, ◌+ℤ◌, ◌≤◌, List, [], ◌∷◌, ◌++◌, refl, sym, subst, inl, inr, ◌⊎◌, arith, Option, Some}
use Rattle.std.specs.Prelude.{◌≤ℤ◌, ◌<ℤ◌, IfSome}
use Rattle.std.proofs.lemmas.Int.{ints}
use Rattle.krb_replay.specs.Stamp.{Stamp}
use Rattle.krb_replay.specs.Memory.{later_of}
use Rattle.krb_ap.specs.Setup.{Setup, Arrival}
use Rattle.krb_ap.specs.Quiet.{IsPast}
use Rattle.krb_ap.specs.History.{effective, IsShown}
use Rattle.krb_ap.specs.World.{IsOf}

-- ---- the moment that counts was handed in

later_is : (latest moment : ℤ) → (later_of (Some latest) moment ≡ moment) ⊎ (later_of (Some latest) moment ≡ latest)
later_is latest moment = grind (arith, ints)

-- by one of these calls, or with this one
pub handed_in : (history : List Arrival) (call : Arrival) → (a : Arrival) × (IsOf (call ∷ history) a × (effective history call.moment ≡ a.moment))
handed_in [] call = (call, (inl refl, refl))
handed_in (b ∷ history) call = elim (later_is (effective history b.moment) call.moment) [
  | inl same ↦ (call, (inl refl, same))
  | inr before ↦ (let old : (a : Arrival) × (IsOf (b ∷ history) a × (effective history b.moment ≡ a.moment)) = handed_in history b in
      (old.0, (inr old.1.0, subst (λ (t : ℤ). later_of (Some (effective history b.moment)) call.moment ≡ t) old.1.1 before)))
]

-- a stamp's time is no later than the moment of one of these calls, by more than the skew
abbrev pub IsWithin : List Arrival → ℕ → Stamp → Type 0
IsWithin calls skew stamp = (a : Arrival) × (IsOf calls a × (stamp.time ≤ℤ (a.moment +ℤ pos skew)))

pub shown_within : (setup : Setup) (history : List Arrival) (stamp : Stamp) → IsShown setup history stamp → IsWithin history setup.skew stamp
shown_within setup [] stamp shown = absurd shown
shown_within setup (call ∷ history) stamp (inl shows) =
    let by : (a : Arrival) × (IsOf (call ∷ history) a × (effective history call.moment ≡ a.moment)) = handed_in history call in
    let time : stamp.time ≤ℤ (effective history call.moment +ℤ pos setup.skew) =
    subst (λ (s : Stamp). s.time ≤ℤ (effective history call.moment +ℤ pos setup.skew)) (sym shows.stamp_is) shows.near.not_after in
    (by.0, (by.1.0, subst (λ (t : ℤ). stamp.time ≤ℤ (t +ℤ pos setup.skew)) by.1.1 time))
shown_within setup (call ∷ history) stamp (inr shown) =
    let old : IsWithin history setup.skew stamp = shown_within setup history stamp shown in (old.0, (inr old.1.0, old.1.1))

-- ---- lists of calls

pub of_front : (xs ys : List Arrival) (a : Arrival) → IsOf xs a → IsOf (xs ++ ys) a
of_front [] ys a o = absurd o
of_front (x ∷ xs) ys a (inl e) = inl e
of_front (x ∷ xs) ys a (inr o) = inr (of_front xs ys a o)

pub of_back : (xs ys : List Arrival) (a : Arrival) → IsOf ys a → IsOf (xs ++ ys) a
of_back [] ys a o = o
of_back (x ∷ xs) ys a o = inr (of_back xs ys a o)

wider_by : (time moment : ℤ) (skew more : ℕ) → skew ≤ more → time ≤ℤ (moment +ℤ pos skew) → time ≤ℤ (moment +ℤ pos more)
wider_by time moment skew more h g = omega (arith, ints)

pub wider : (xs ys : List Arrival) (skew more : ℕ) (stamp : Stamp) → skew ≤ more → ((a : Arrival) → IsOf xs a → IsOf ys a)
    → IsWithin xs skew stamp → IsWithin ys more stamp
wider xs ys skew more stamp le into w = (w.0, (into w.0 w.1.0, wider_by stamp.time w.0.moment skew more le w.1.1))

-- ---- a service that has settled accepts nothing of that

too_late : (start time moment : ℤ) (skew : ℕ) → (start +ℤ pos skew) <ℤ time → time ≤ℤ (moment +ℤ pos skew) → moment ≤ℤ start → ⊥
too_late start time moment skew h g le = omega (arith, ints)

pub not_past : (setup : Setup) (calls : List Arrival) (stamp : Stamp)
    → ((a : Arrival) → IsOf calls a → (start : ℤ) × ((setup.start ≡ Some start) × (a.moment ≤ℤ start)))
    → IsWithin calls setup.skew stamp → ¬ IsPast setup stamp.time
not_past setup calls stamp begun w past =
    let by : (start : ℤ) × ((setup.start ≡ Some start) × (w.0.moment ≤ℤ start)) = begun w.0 w.1.0 in
    too_late by.0 stamp.time w.0.moment setup.skew
    (subst (λ (o : Option ℤ). IfSome o (λ start. (start +ℤ pos setup.skew) <ℤ stamp.time)) by.1.0 past) w.1.1 by.1.1
