-- Elements of one kind, one after another up to the end, as a SEQUENCE OF has them.
use Rattle.std.specs.Prelude.{List, [], Result, Ok, Err, IsOk}
use Rattle.krb_der.specs.declared.fault.Fault.{Fault}
use Rattle.krb_der.specs.Kind.{Kind, each, ValueOf}
use Rattle.krb_der.specs.Place.{Place}
use Rattle.krb_der.specs.Computed.Read.{fields_at}

-- everything that is left are elements of the kind
abbrev pub AreListed : Kind → Place → Type 0
AreListed k here = IsOk (fields_at (each k) here)

abbrev pub values_of : {V : Type 0} → Result (List V) Fault → List V
values_of (Ok vs) = vs
values_of (Err f) = []

-- their values
abbrev pub listed : (k : Kind) → Place → List (ValueOf k)
listed k here = values_of (fields_at (each k) here)
