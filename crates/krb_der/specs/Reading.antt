-- What a call answers that reads the next element, or a whole message.
use Rattle.std.specs.Prelude.{◌≡◌, ℕ, ◌≤◌, List, length, true, false, Option, Some, None, IsSomeAnd, Result, Ok, IfOk, IsOk, IsOkAnd, IfErr, OnOk, OnErr}
use Rattle.krb_der.specs.declared.fault.Fault.{Fault}
use Rattle.krb_der.specs.Kind.{Kind, each, ValueOf}
use Rattle.krb_der.specs.Content.{Elementary}
use Rattle.krb_der.specs.Place.{Place, begins}
use Rattle.krb_der.specs.Spells.{SpellsFields, StandsAt, IsMessage}
use Rattle.krb_der.specs.Fault.{HasHead, IsElementFault, IsHeadFault, IsFaulty, IsFault}

-- The call succeeds exactly if an element of the kind is at the old place, with its value (view is
-- what clauses see of it), and the new place is after it. Otherwise it answers a fault of that
-- element, and the place is unchanged.
pub record Reads {X : Type 0} (k : Kind) (view : X → ValueOf k) (result : Result X Fault) (old new : Place) : Type 0 where
  pub found : IfOk result (λ x. StandsAt Elementary k (view x) old new)
  pub only : (v : ValueOf k) (after : Place) → StandsAt Elementary k v old after
      → IsOkAnd result (λ x. (view x ≡ v) × (new ≡ after))
  pub faulty : IfErr result (IsElementFault Elementary k old)
  pub kept : OnErr result (new ≡ old)

-- The call succeeds exactly if everything that is left at the place are elements of the kind, one
-- after another. Otherwise it answers a fault of what is left.
pub record ReadsList (k : Kind) (result : Result (Unit {0}) Fault) (here : Place) : Type 0 where
  pub found : OnOk result ((vs : List (ValueOf k)) × SpellsFields Elementary (each k) vs here.rest)
  pub only : (vs : List (ValueOf k)) → SpellsFields Elementary (each k) vs here.rest → IsOk result
  pub faulty : IfErr result (IsFaulty Elementary (each k) here)

-- The call enters the next element, which must have the tag: it gives the place of its content, and
-- the new place is after the element.
pub record Enters (tag : ℕ) (result : Result Place Fault) (old new : Place) : Type 0 where
  pub found : IfOk result (λ inside. HasHead tag old inside new)
  pub only : (inside after : Place) → HasHead tag old inside after → IsOkAnd result (λ x. (x ≡ inside) × (new ≡ after))
  pub faulty : IfErr result (IsHeadFault Elementary tag old)
  pub kept : OnErr result (new ≡ old)

-- the same for an optional element, which is there exactly if its tag is the next byte
pub record MayEnter (tag : ℕ) (result : Result (Option Place) Fault) (old new : Place) : Type 0 where
  pub absent : begins tag old.rest ≡ false → (result ≡ Ok None) × (new ≡ old)
  pub found : begins tag old.rest ≡ true → IfOk result (λ o. IsSomeAnd o (λ inside. HasHead tag old inside new))
  pub only : (inside after : Place) → HasHead tag old inside after → IsOkAnd result (λ o. (o ≡ Some inside) × (new ≡ after))
  pub faulty : IfErr result (IsHeadFault Elementary tag old)
  pub kept : OnErr result (new ≡ old)

-- The call succeeds exactly if the bytes are a message of the kind, with its value (view is what
-- clauses see of it). Otherwise it answers a fault of the bytes by the rules, at one of them or at
-- their end.
pub record Parses {X : Type 0} (k : Kind) (view : X → ValueOf k) (result : Result X Fault) (bytes : List ℕ) : Type 0 where
  pub found : IfOk result (λ x. IsMessage k (view x) bytes)
  pub only : (v : ValueOf k) → IsMessage k v bytes → IsOkAnd result (λ x. view x ≡ v)
  pub faulty : IfErr result (IsFault k bytes)
  pub offset : IfErr result (λ fault. fault.at ≤ length bytes)
