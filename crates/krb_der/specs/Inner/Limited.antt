-- A call that wrote, and the limit.
use Rattle.std.specs.Prelude.{ℕ, List, length, take, nat_lt, if◌then◌else◌, Result, Ok, Err}
use Rattle.krb_der.specs.declared.fault.EncodeFault.{EncodeFault}
use Rattle.krb_der.specs.declared.fault.EncodeFault.TheVariants.{TooLong, OutOfMemory}
use Rattle.krb_der.specs.Spells.{limit}

abbrev pub limited_of : {E : Type 0} → Result (Unit {0}) E → List ℕ → Result (Unit {0}) EncodeFault
limited_of (Ok u) new = if nat_lt limit (length new) then Err TooLong else Ok tt
limited_of (Err e) new = Err OutOfMemory

-- what is left of the bytes; a call with this answer wrote those from start on
abbrev pub settled : Result (Unit {0}) EncodeFault → ℕ → List ℕ → List ℕ
settled (Ok u) start bytes = bytes
settled (Err e) start bytes = take start bytes
