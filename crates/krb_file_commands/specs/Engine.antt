-- What a command makes of the file that it reads, or why it makes nothing; and what of that its sink takes.
use Rattle.std.specs.Prelude.{◌≡◌, ◌≢◌, ⊤, ℕ, List, Option, Some, Result, Ok, Err, IfOk, IfErr, IfSome, OnOk}
use Rattle.krb_file.specs.File.{TakesFile}
use Rattle.krb_file.specs.Flow.{counted}
use Rattle.krb_file_commands.specs.declared.engine.Ended.{Ended}
use Rattle.krb_file_commands.specs.declared.engine.Ended.TheVariants.{Unmade, Write}

-- the bytes that were to come, if they are known, are a file with some value, and this holds of the value
abbrev pub OfFile : {V : Type 0} → (List ℕ → V → Type 0) → Option (List ℕ) → (V → Type 0) → Type 0
OfFile {V} IsFile given Holds = IfSome given (λ bytes. (value : V) × (IsFile bytes value × Holds value))

-- how many reads failed, by what a fault says
abbrev pub failed_by : {X E : Type 0} → (E → ℕ) → Result X E → ℕ
failed_by failed (Err e) = failed e
failed_by failed (Ok _) = 0

-- This holds of what is made of a file. A fault whose exit status isn't 3 is one that the file has, and if the file has one, nothing is made.
-- So many reads failed, and the source gave at most one byte past the limit.
pub record Makes {X E : Type 0} (Holds : X → Type 0) (Faults : List ℕ → E → Type 0) (Allows : E → Type 0) (status failed : E → ℕ)
    (from to : Option (List ℕ)) (before after : ℕ) (result : Result X E) : Type 0 where
  pub made : IfOk result Holds
  pub fault : IfErr result (λ e. status e ≢ 3 → IfSome from (λ given. Faults given e))
  pub faulty : (given : List ℕ) (e : E) → from ≡ Some given → Faults given e → OnOk result ⊥
  pub allowed : IfErr result Allows
  pub reads : after ≡ counted before (failed_by failed result)
  pub taken : TakesFile from to

-- ---- what the engine answers

-- nothing was made, for a reason that this holds of
abbrev pub IfUnmade : {X E : Type 0} → Result X (Ended E) → (E → Type 0) → Type 0
IfUnmade (Err (Unmade e)) Holds = Holds e
IfUnmade (Err Write) Holds = ⊤
IfUnmade (Ok _) Holds = ⊤

-- nothing was made
abbrev pub IsUnmade : {X E : Type 0} → Result X (Ended E) → Type 0
IsUnmade (Err (Unmade e)) = ⊤
IsUnmade (Err Write) = ⊥
IsUnmade (Ok _) = ⊥

-- how many reads failed
abbrev pub failed_reads : {X E : Type 0} → (E → ℕ) → Result X (Ended E) → ℕ
failed_reads failed (Err (Unmade e)) = failed e
failed_reads failed (Err Write) = 0
failed_reads failed (Ok _) = 0

-- how many writes failed
abbrev pub failed_writes : {X E : Type 0} → Result X (Ended E) → ℕ
failed_writes (Err (Unmade e)) = 0
failed_writes (Err Write) = 1
failed_writes (Ok _) = 0
