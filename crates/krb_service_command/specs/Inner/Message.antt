-- What is answered of a text that is to spell a message, of a source or of the command line.
use Rattle.std.specs.Prelude.{◌≡◌, ◌≢◌, ⊤, ℕ, List, Option, IfSome, Result, Ok}
use Rattle.krb_explain.specs.Input.{read_of}
use Rattle.krb_file_commands.specs.Engine.{Makes}
use Rattle.krb_service_command.specs.Explaining.{IsUnexplained, explain_reads, explain_status}
use Rattle.krb_service_command.specs.declared.explain_fault.ExplainFault.{ExplainFault}

-- the text that a source has to come was read, and what it has is the bytes that the text spells
abbrev pub ReadsMessage : {X : Type 0} → Option (List ℕ) → Option (List ℕ) → ℕ → ℕ → (X → List ℕ) → Result X ExplainFault → Type 0
ReadsMessage from to before after bytes_of result =
    Makes (λ message. IfSome from (λ text. read_of text ≡ Ok (bytes_of message))) IsUnexplained (λ _. ⊤) explain_status explain_reads from to before after result

-- the text has a fault of this exit status, unless a read or memory failed
abbrev pub IsUnreadMessage : Option (List ℕ) → ℕ → Type 0
IsUnreadMessage from status = status ≢ 3 → IfSome from (λ text. (fault : ExplainFault) × (IsUnexplained text fault × (status ≡ explain_status fault)))
