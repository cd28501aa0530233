-- What a call returned is what reading gives: the value (view is what clauses see of it) and the
-- new place, or the fault and the old place.
use Rattle.std.specs.Prelude.{◌≡◌, Option, Some, None, Result, Ok, Err}
use Rattle.krb_der.specs.declared.fault.Fault.{Fault}
use Rattle.krb_der.specs.Place.{Place}

abbrev pub Gives : {X V : Type 0} → (X → V) → Result X Fault → Place → Place → Result (V × Place) Fault → Type 0
Gives view (Ok x) old new read = read ≡ Ok (view x, new)
Gives view (Err f) old new read = (read ≡ Err f) × (new ≡ old)

-- the same for a call that reads up to the end of its place
abbrev pub Fills : {X V : Type 0} → (X → V) → Result X Fault → Result V Fault → Type 0
Fills view (Ok x) read = read ≡ Ok (view x)
Fills view (Err f) read = read ≡ Err f

-- what reading gives if its value is dropped
abbrev pub checked : {V : Type 0} → Result V Fault → Result (Unit {0}) Fault
checked (Ok v) = Ok tt
checked (Err f) = Err f

-- the same for a call that reads the content of an element without parts
abbrev pub Finds : {X V : Type 0} → (X → V) → Option X → Option V → Type 0
Finds view (Some x) read = read ≡ Some (view x)
Finds view None read = read ≡ None
