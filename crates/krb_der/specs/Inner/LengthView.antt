-- What contracts see of a length and the bytes after it.
use Rattle.std.specs.Prelude.{ℕ, List, Result, Ok, Err}
use Rattle.std.specs.Borrow.{Bor}
use Rattle.krb_der.specs.declared.fault.FaultKind.{FaultKind}

abbrev pub plain_length : Result (ℕ × Bor (List ℕ)) FaultKind → Result (ℕ × List ℕ) FaultKind
plain_length (Ok x) = Ok (x.0, x.1.now)
plain_length (Err kind) = Err kind
