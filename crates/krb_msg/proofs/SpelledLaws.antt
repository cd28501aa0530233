-- A value that stands for what was read, and bytes that are written as they are.
use Rattle.std.proofs.Common.{◌≡◌, ℕ, ◌+◌, ◌≤◌, ◌<◌, List, ◌++◌, length, Ok, Err, refl, ap, arith, length-append}
use Rattle.krb_der.specs.declared.fault.Fault.{Fault}
use Rattle.krb_der.specs.declared.fault.EncodeFault.TheVariants.{TooLong}
use Rattle.krb_der.specs.Kind.{Kind, ValueOf}
use Rattle.krb_der.specs.Reading.{Parses}
use Rattle.krb_der.specs.Spells.{limit}
use Rattle.krb_der.specs.Size.{size_of}
use Rattle.krb_der.specs.Writing.{Writes, EncodesValue}

pub parses_itself : {X : Type 0} (k : Kind) (view : X → ValueOf k) (x : X) (bytes : List ℕ) → Parses k view (Ok x) bytes → Parses k (λ v. v) (Ok (view x)) bytes
parses_itself k view x bytes p = record { found = p.found; only = p.only; faulty = tt; offset = tt }

pub parses_nothing : {X : Type 0} (k : Kind) (view : X → ValueOf k) (fault : Fault) (bytes : List ℕ) → Parses {X = X} k view (Err fault) bytes → Parses {X = ValueOf k} k (λ v. v) (Err fault) bytes
parses_nothing k view fault bytes p = record { found = tt; only = p.only; faulty = p.faulty; offset = p.offset }

pub written_as_it_is : (k : Kind) (v : ValueOf k) (bytes old new : List ℕ) → Writes k v bytes → new ≡ old ++ bytes → length old + length bytes ≤ limit → EncodesValue k v (Ok tt) old new
written_as_it_is k v bytes old new w e fits =
    record {
      ok = (record { bytes = bytes; is = w; whole = e }, omega (arith, ap length e, length-append old bytes, fits));
      too_long = λ t. absurd cc;
      kept = tt;
    }

pub too_long_as_it_is : (k : Kind) (v : ValueOf k) (bytes old : List ℕ) → length bytes ≡ size_of k v → limit < length old + length bytes → EncodesValue k v (Err TooLong) old old
too_long_as_it_is k v bytes old size long = record { ok = tt; too_long = λ t. omega (arith, size, long); kept = refl }
