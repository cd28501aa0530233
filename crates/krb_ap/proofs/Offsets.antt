-- Which refusals tell a place, and that it is one of the bytes or their end.
use Rattle.std.proofs.Common.{◌≡◌, ◌≢◌, ℕ, ◌≤◌, List, length, sym, subst, arith, ◌⊎◌, inl, inr, Option, None}
use Rattle.std.specs.Prelude.{IfSome}
use Rattle.krb_der.specs.Kind.{Kind}
use Rattle.krb_der.specs.Fault.{IsFault}
use Rattle.krb_der.specs.declared.fault.Fault.{Fault}
use Rattle.krb_msg.specs.Module.{ap_req, ap_rep}
use Rattle.krb_ap.specs.Setup.{Setup, Arrival}
use Rattle.krb_ap.specs.Causes.{Cause, Holds, TellsPlaceWithin, offset_of}
use Rattle.krb_ap.specs.Request.{Awaited}
use Rattle.krb_ap.specs.Finish.{FinishCause, finish_offset_of}
use Rattle.krb_ap.specs.declared.finish.FinishFault.{FinishFault}
use Rattle.krb_ap.specs.declared.finish.FinishFault.TheVariants as finish
use Rattle.krb_ap.proofs.Table.{fault_in}
use Rattle.krb_ap.specs.declared.refusal.Refusal.{Refusal}
use Rattle.krb_ap.specs.declared.refusal.Refusal.TheVariants.{Malformed}

-- a fault of bytes lies within them
abbrev pub Within : Type 0
Within = (k : Kind) (bytes : List ℕ) (fault : Fault) → IsFault k bytes fault → fault.at ≤ length bytes

-- a refusal has no place, or is of malformed bytes
placeless : (r : Refusal) → (offset_of r ≡ None) ⊎ (r ≡ Malformed (fault_in r))
placeless r = grind arith

pub cause_within : Within → (setup : Setup) (history : List Arrival) (call : Arrival) (r : Refusal) → Cause setup history call r
    → TellsPlaceWithin call.bytes r
cause_within within setup history call r cause = elim (placeless r) [
  | inl none ↦ subst (λ (o : Option ℕ). IfSome o (λ at. at ≤ length call.bytes)) (sym none) tt
  | inr is ↦ subst (λ (x : Refusal). TellsPlaceWithin call.bytes x) (sym is)
      (of_malformed (fault_in r) (subst (λ (x : Refusal). Holds setup history call x) is cause.holds))
]
  where
    of_malformed : (fault : Fault) → Holds setup history call (Malformed fault) → fault.at ≤ length call.bytes
    of_malformed fault h = within ap_req call.bytes fault h.1

pub finish_within : Within → (awaited : Awaited) (bytes : List ℕ) (f : FinishFault) → FinishCause awaited bytes f
    → IfSome (finish_offset_of f) (λ at. at ≤ length bytes)
finish_within within awaited bytes (finish.Malformed fault) cause = within ap_rep bytes fault cause.holds.1
finish_within within awaited bytes _ cause = tt

pub shut_within : (bytes : List ℕ) (f : FinishFault) → (f ≢ finish.OutOfMemory → f ≡ finish.Integrity) → IfSome (finish_offset_of f) (λ at. at ≤ length bytes)
shut_within bytes (finish.Malformed fault) is = (let e : finish.Malformed fault ≡ finish.Integrity = is (λ e. cc) in absurd cc)
shut_within bytes _ is = tt
