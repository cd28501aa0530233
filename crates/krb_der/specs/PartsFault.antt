-- What is wrong with bytes in which the parts of a message don't stand: the first rule that is broken, and where.
use Rattle.std.specs.Prelude.{◌≡◌, ◌≢◌, ℕ, [], true, false, Result, IfOk, IsOkAnd, IfErr}
use Rattle.krb_der.specs.declared.fault.Fault.{Fault}
use Rattle.krb_der.specs.declared.fault.FaultKind.TheVariants.{Trailing}
use Rattle.krb_der.specs.Content.{Elementary}
use Rattle.krb_der.specs.Place.{Place, begins}
use Rattle.krb_der.specs.Fault.{HasHead, IsHeadFault}
use Rattle.krb_der.specs.Parts.{Parts, ended, anything, each_of, unknown, last, must, may, PlacesOf, IsUnknown, HasUnknown, Stand}

-- something is left
pub record IsLeft (here : Place) (fault : Fault) : Type 0 where
  pub more : here.rest ≢ []
  pub fault_is : fault ≡ record { kind = Trailing; at = here.at }

-- of elements up to the end
pub data AreAllFault (Is : Place → Place → Place → Type 0) (IsFault : Place → Fault → Type 0) : Place → Fault → Type 0 where
  of_one : {here : Place} {fault : Fault} → here.rest ≢ [] → IsFault here fault → AreAllFault Is IsFault here fault
  of_later : {here : Place} {fault : Fault} (inside after : Place) → Is here inside after → AreAllFault Is IsFault after fault
      → AreAllFault Is IsFault here fault

-- of an element that must be none of those that are known
pub data IsUnknownFault (from to : ℕ) (here : Place) (fault : Fault) : Type 0 where
  is_known : ((tag : ℕ) → begins tag here.rest ≡ true → IsUnknown from to tag → ⊥) → fault ≡ record { kind = Trailing; at = here.at }
      → IsUnknownFault from to here fault
  of_unknown : (tag : ℕ) → begins tag here.rest ≡ true → IsUnknown from to tag → IsHeadFault Elementary tag here fault
      → IsUnknownFault from to here fault

-- of an element that must be all that is left: what comes after it goes before what is in it
pub data IsLastFault (tag : ℕ) (InsideFault : Place → Fault → Type 0) (here : Place) (fault : Fault) : Type 0 where
  last_head : IsHeadFault Elementary tag here fault → IsLastFault tag InsideFault here fault
  not_last : (inside after : Place) → HasHead tag here inside after → IsLeft after fault → IsLastFault tag InsideFault here fault
  in_last : (inside after : Place) → HasHead tag here inside after → after.rest ≡ [] → InsideFault inside fault
      → IsLastFault tag InsideFault here fault

-- of an element that must come and of what comes after it, from left to right
pub data IsMustFault (tag : ℕ) (Inside : Place → Type 0) (InsideFault AfterFault : Place → Fault → Type 0) (here : Place) (fault : Fault) : Type 0 where
  must_head : IsHeadFault Elementary tag here fault → IsMustFault tag Inside InsideFault AfterFault here fault
  in_must : (inside after : Place) → HasHead tag here inside after → InsideFault inside fault
      → IsMustFault tag Inside InsideFault AfterFault here fault
  after_must : (inside after : Place) → HasHead tag here inside after → Inside inside → AfterFault after fault
      → IsMustFault tag Inside InsideFault AfterFault here fault

-- of one that may come, and of what comes then
pub data IsMayFault (tag : ℕ) (ThereFault AbsentFault : Place → Fault → Type 0) (here : Place) (fault : Fault) : Type 0 where
  there : begins tag here.rest ≡ true → ThereFault here fault → IsMayFault tag ThereFault AbsentFault here fault
  absent : begins tag here.rest ≡ false → AbsentFault here fault → IsMayFault tag ThereFault AbsentFault here fault

-- of parts
abbrev pub PartsFault : Parts → Place → Fault → Type 0
PartsFault ended here fault = IsLeft here fault
PartsFault anything here fault = ⊥
PartsFault (each_of tag) here fault = AreAllFault (HasHead tag) (IsHeadFault Elementary tag) here fault
PartsFault (unknown from to) here fault = AreAllFault (HasUnknown from to) (IsUnknownFault from to) here fault
PartsFault (last tag ps) here fault = IsLastFault tag (PartsFault ps) here fault
PartsFault (must tag ps qs) here fault =
    IsMustFault tag (λ p. (v : PlacesOf ps) × Stand ps v p) (PartsFault ps) (PartsFault qs) here fault
PartsFault (may tag ps qs) here fault =
    IsMayFault tag (IsMustFault tag (λ p. (v : PlacesOf ps) × Stand ps v p) (PartsFault ps) (PartsFault qs)) (PartsFault qs) here fault

-- The call succeeds exactly if the parts stand at places from here on up to the end, and answers these (view is what clauses see of its
-- answer). Otherwise it answers a fault by the rules.
pub record Finds {X : Type 0} (ps : Parts) (view : X → PlacesOf ps) (result : Result X Fault) (here : Place) : Type 0 where
  pub found : IfOk result (λ x. Stand ps (view x) here)
  pub only : (v : PlacesOf ps) → Stand ps v here → IsOkAnd result (λ x. view x ≡ v)
  pub faulty : IfErr result (PartsFault ps here)
