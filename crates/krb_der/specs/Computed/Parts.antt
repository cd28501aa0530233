-- Finding parts in place, from left to right: their places, or the first fault.
use Rattle.std.specs.Prelude.{ℕ, ◌%◌, Bool, not, ◌&&◌, ◌||◌, ◌==◌, nat_lt, if◌then◌else◌, List, [], ◌∷◌, Option, Some, None, Result, Ok}
use Rattle.krb_der.specs.declared.fault.Fault.{Fault}
use Rattle.krb_der.specs.declared.fault.FaultKind.TheVariants.{Trailing}
use Rattle.krb_der.specs.Place.{Place, begins}
use Rattle.krb_der.specs.Parts.{Parts, ended, anything, each_of, unknown, last, must, may, PlacesOf}
use Rattle.krb_der.specs.Computed.Steps.{◌>>=◌}
use Rattle.krb_der.specs.Computed.Gives.{checked}
use Rattle.krb_der.specs.Computed.Read.{fault_at, enter_at, finish_at, each_at}

abbrev pub is_unknown : ℕ → ℕ → ℕ → Bool
is_unknown from to tag = (nat_lt tag from || nat_lt to tag) && not (tag % 32 == 31)

abbrev pub unknown_from : ℕ → ℕ → Place → List ℕ → Result (Place × Place) Fault
unknown_from from to p [] = fault_at Trailing p.at
unknown_from from to p (tag ∷ bytes) = if is_unknown from to tag then enter_at tag p else fault_at Trailing p.at

-- an element with a tag that isn't known
unfoldable pub unknown_at : ℕ → ℕ → Place → Result (Place × Place) Fault
unknown_at from to p = unknown_from from to p p.rest

-- such elements up to the end
abbrev pub all_at : (Place → Result (Place × Place) Fault) → Place → Result (Unit {0}) Fault
all_at read p = checked (each_at read p)

abbrev pub last_at : {A : Type 0} → ℕ → (Place → Result A Fault) → Place → Result A Fault
last_at tag read p = enter_at tag p >>= λ e. finish_at e.1 >>= λ _. read e.0

abbrev pub first_at : {A B : Type 0} → ℕ → (Place → Result A Fault) → (Place → Result B Fault) → Place → Result (A × B) Fault
first_at tag read others p = enter_at tag p >>= λ e. read e.0 >>= λ x. others e.1 >>= λ y. Ok (x, y)

abbrev pub maybe_at : {A B : Type 0} → ℕ → (Place → Result A Fault) → (Place → Result B Fault) → Place → Result (Option A × B) Fault
maybe_at tag read others p =
    if begins tag p.rest then (enter_at tag p >>= λ e. read e.0 >>= λ x. others e.1 >>= λ y. Ok (Some x, y))
    else (others p >>= λ y. Ok (None, y))

unfoldable pub parts_at : (ps : Parts) → Place → Result (PlacesOf ps) Fault
parts_at ended = finish_at
parts_at anything = λ p. Ok p
parts_at (each_of tag) = all_at (enter_at tag)
parts_at (unknown from to) = all_at (unknown_at from to)
parts_at (last tag ps) = last_at tag (parts_at ps)
parts_at (must tag ps qs) = first_at tag (parts_at ps) (parts_at qs)
parts_at (may tag ps qs) = maybe_at tag (parts_at ps) (parts_at qs)
