use Rattle.std.proofs.Common.{take}
use Rattle.krb_keytab.specs.Size.{IsLargestSize}
use Rattle.krb_keytab.proofs.keytab.largest_size.Given as goal

abbrev pub invariant-loop-entry : goal.invariant-loop-entry
invariant-loop-entry l = IsLargestSize (take l.entry-index l.entries) l.largest
