-- What the program prints of a fault that ends `accept`, and its exit status.
use Rattle.std.specs.Prelude.{ℕ, List, None, Result, Err, codes}
use Rattle.krb_file_commands.specs.FaultText.{FaultText}
use Rattle.krb_service_command.specs.declared.fault.ServiceFault.{ServiceFault}
use Rattle.krb_service_command.specs.declared.fault.ServiceFault.TheVariants.{Input, Write, OutOfMemory}

abbrev pub text_of : ServiceFault → FaultText
text_of Input = (codes "Read", None)
text_of Write = (codes "Write", None)
text_of OutOfMemory = (codes "OutOfMemory", None)

-- what a fault is of, by the names of a file and of a command
abbrev pub subject_of : ServiceFault → List ℕ → List ℕ → List ℕ
subject_of Input file command = codes "input"
subject_of Write file command = codes "output"
subject_of OutOfMemory file command = command

-- the input, the output or memory failed
abbrev pub status_of : ServiceFault → ℕ
status_of fault = 3

-- how many writes failed
abbrev pub failed_writes : {X : Type 0} → Result X ServiceFault → ℕ
failed_writes (Err Write) = 1
failed_writes _ = 0
