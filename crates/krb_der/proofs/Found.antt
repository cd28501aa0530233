-- A value that is found as it is seen.
use Rattle.std.proofs.Common.{◌≡◌, Option, Some, None, sym}
use Rattle.krb_der.specs.Computed.Gives.{Finds}

pub found : {V : Type 0} (o read : Option V) → o ≡ read → Finds (λ v. v) o read
found (Some v) read e = sym e
found None read e = sym e
