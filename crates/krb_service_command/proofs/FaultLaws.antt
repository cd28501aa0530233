-- The faults that end a service are different.
use Rattle.std.specs.Prelude.{OnErr}
use Rattle.std.proofs.Common.{◌≡◌, ◌⊎◌, Result, Ok, Err, ap, inl, inr}
use Rattle.krb_file_commands.proofs.FaultLaws.{same_err}
use Rattle.krb_service_command.specs.declared.fault.ServiceFault.{ServiceFault}
use Rattle.krb_service_command.specs.declared.fault.ServiceFault.TheVariants.{Input, Write, OutOfMemory}

-- a fault of the output or of memory isn't one of the input
pub not_input : {X : Type 0} (fault : ServiceFault) → (fault ≡ Write) ⊎ (fault ≡ OutOfMemory) → ◌≡◌ {A = Result X ServiceFault} (Err fault) (Err Input) → ⊥
not_input fault which e = elim which [ inl write ↦ cc | inr memory ↦ cc ]

-- the same fault, of another call
pub same_fault : {X Y F : Type 0} {one other : F} → ◌≡◌ {A = Result X F} (Err one) (Err other) → ◌≡◌ {A = Result Y F} (Err one) (Err other)
same_fault {F = F} {one = one} {other = other} e = ap (λ (fault : F). Err fault) (same_err one other e)

-- what follows from what a fault leaves
pub on_err_map : {X F P Q : Type 0} (result : Result X F) → (P → Q) → OnErr result P → OnErr result Q
on_err_map (Ok value) f holds = tt
on_err_map (Err fault) f holds = f holds
