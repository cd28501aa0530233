use Rattle.std.proofs.Common.{◌≡◌, drop, map}
use Rattle.krb_readable.specs.Named.{name_in, row_of}
use Rattle.krb_readable.proofs.named.name_in.Given as goal

abbrev pub invariant-loop-row : goal.invariant-loop-row
invariant-loop-row l = name_in (map row_of (drop l.row-index l.registry)) l.number ≡ name_in (map row_of l.registry) l.number
