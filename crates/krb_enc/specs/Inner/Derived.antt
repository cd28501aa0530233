-- The keys that are derived from a base key for one usage.
use Rattle.std.specs.Prelude.{ℕ, pos, List}
use Rattle.krb_enc.specs.Key.{KeyValue}
use Rattle.krb_enc.specs.declared.derived.Derived.{Derived}
use Rattle.krb_enc.specs.declared.derived.Derived.TheVariants.{Short, Long}

abbrev pub key_of : Derived → KeyValue
key_of (Short base _ _) = record { etype = pos 19; bytes = base }
key_of (Long base _ _) = record { etype = pos 20; bytes = base }

abbrev pub integrity_of : Derived → List ℕ
integrity_of (Short _ integrity _) = integrity
integrity_of (Long _ integrity _) = integrity

abbrev pub encryption_of : Derived → List ℕ
encryption_of (Short _ _ encryption) = encryption
encryption_of (Long _ _ encryption) = encryption
