-- What Rust's `?` returns at its exit.
use Rattle.std.specs.Prelude.{IsErrAnd}
use Rattle.std.proofs.Common.{◌≡◌, Result, Ok, Err, ap}

-- the fault that `From` makes of the callee's
pub err_is : {X F : Type 0} {fault : F} (result : Result X F) → IsErrAnd result (λ it. it ≡ fault) → result ≡ Err fault
err_is (Ok value) is = absurd is
err_is {F = F} (Err it) is = ap (λ (f : F). Err f) is
