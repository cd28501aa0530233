-- What the steps of reading and writing a checksum answer.
use Rattle.std.specs.Prelude.{◌≡◌, ℕ, ◌^◌, ◌<◌, List, [], ◌++◌, length, Option, Some, None, Result, IfOk, OnOk, IfErr, IsErrOf, ◌↔◌}
use Rattle.std.specs.Int.{w16, to_le_bytes}
use Rattle.std.specs.Borrow.{Bor}
use Rattle.krb_gss.specs.declared.flags.ContextFlags.{ContextFlags}
use Rattle.krb_gss.specs.declared.checksum.ChecksumFault.{ChecksumFault}
use Rattle.krb_gss.specs.declared.checksum.ChecksumWriteFault.{ChecksumWriteFault}
use Rattle.krb_gss.specs.declared.checksum.ChecksumWriteFault.TheVariants.{TooLong, Delegation as Disagrees}
use Rattle.krb_gss.specs.Checksum.{bytes_if, HasFront, HasFlag, HasDelegation, IsChecksumFault, AgreesWithFlag, IsTooLong}
use Rattle.krb_gss.specs.declared.flags.ContextFlag.TheVariants.{Delegation}

pub record ReadsFront (result : Result (List ℕ × ContextFlags × Bor (List ℕ)) ChecksumFault) (bytes : List ℕ) : Type 0 where
  pub found : IfOk result (λ x. HasFront x.1.0 x.0 x.2.now bytes)
  pub faulty : IfErr result (IsChecksumFault bytes)

-- DlgOpt, Dlgth and Deleg, and what is after them
pub record HasMessage (message extensions bytes : List ℕ) : Type 0 where
  pub short : length message < 2 ^ 16
  pub whole : bytes ≡ to_le_bytes w16 1 ++ (to_le_bytes w16 (length message) ++ (message ++ extensions))

-- a fault of what is after the flags
abbrev pub IsAfterFault : ℕ → List ℕ → ChecksumFault → Type 0
IsAfterFault flags after fault = (bindings bytes : List ℕ) → HasFront flags bindings after bytes → IsChecksumFault bytes fault

pub record ReadsMessage (flags : ℕ) (result : Result (Bor (List ℕ) × Bor (List ℕ)) ChecksumFault) (after : List ℕ) : Type 0 where
  pub found : IfOk result (λ x. HasMessage x.0.now x.1.now after)
  pub faulty : HasFlag flags Delegation → IfErr result (IsAfterFault flags after)

pub record ReadsDelegation (flags : ℕ) (result : Result (Option (Bor (List ℕ)) × Bor (List ℕ)) ChecksumFault) (after : List ℕ) : Type 0 where
  pub found : IfOk result (λ x. HasDelegation flags (bytes_if x.0) x.1.now after)
  pub faulty : IfErr result (IsAfterFault flags after)

-- the bytes of a delegation that agrees with its flag
abbrev pub option_bytes : Option (List ℕ) → List ℕ
option_bytes None = []
option_bytes (Some message) = to_le_bytes w16 1 ++ (to_le_bytes w16 (length message) ++ message)

-- such a delegation and flags can be written
pub record Checks (result : Result (Unit {0}) ChecksumWriteFault) (flags : ℕ) (delegation : Option (List ℕ)) : Type 0 where
  pub ok : OnOk result (AgreesWithFlag flags delegation × (IsTooLong delegation → ⊥))
  pub disagrees : IsErrOf result Disagrees ↔ (AgreesWithFlag flags delegation → ⊥)
  pub too_long : IsErrOf result TooLong ↔ (AgreesWithFlag flags delegation × IsTooLong delegation)
