use Rattle.std.proofs.Common.{◌≡◌, ◌∷◌, map, take}
use Rattle.krb_readable.specs.Readable.{keytab_head, keytab_row}
use Rattle.krb_readable.proofs.keytab.keytab_rows.Given as goal

abbrev pub invariant-loop-entry : goal.invariant-loop-entry
invariant-loop-entry l = l.rows.items ≡ keytab_head ∷ map keytab_row (take l.entry-index l.entries)
