-- What was read of a source, and what was done with it.
use Rattle.std.proofs.Common.{ℕ, List, Option, Some, None}
use Rattle.std.specs.Prelude.{IfSome}
use Rattle.krb_file_commands.specs.Engine.{OfFile}

pub of_file : {V : Type 0} (IsFile : List ℕ → V → Type 0) (given : Option (List ℕ)) (value : V) (Holds : V → Type 0)
    → IfSome given (λ bytes. IsFile bytes value) → Holds value → OfFile IsFile given Holds
of_file IsFile None value Holds found holds = tt
of_file IsFile (Some bytes) value Holds found holds = (value, (found, holds))

pub of_file_map : {V : Type 0} {P Q : V → Type 0} (IsFile : List ℕ → V → Type 0) (given : Option (List ℕ)) → ((value : V) → P value → Q value)
    → OfFile IsFile given P → OfFile IsFile given Q
of_file_map IsFile None f is = tt
of_file_map IsFile (Some bytes) f is = (is.0, (is.1.0, f is.0 is.1.1))
