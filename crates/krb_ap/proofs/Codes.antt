-- Each error code is a small number.
use Rattle.std.proofs.Common.{◌≡◌, ℤ, arith, Some}
use Rattle.std.specs.Prelude.{FitsSigned}
use Rattle.std.specs.Int.{w32}
use Rattle.std.proofs.lemmas.Int.{ints}
use Rattle.krb_ap.specs.Causes.{code_of}
use Rattle.krb_ap.specs.declared.refusal.Refusal.{Refusal}

pub code_fits : (r : Refusal) (z : ℤ) → code_of r ≡ Some z → FitsSigned w32 z
code_fits r z e = grind (arith, ints)
