use Rattle.std.proofs.Common.{◌≡◌, drop, map}
use Rattle.krb_readable.specs.Named.{number_called, row_of}
use Rattle.krb_readable.proofs.named.number_called.Given as goal

abbrev pub invariant-loop-row : goal.invariant-loop-row
invariant-loop-row l = number_called (map row_of (drop l.row-index l.registry)) l.name ≡ number_called (map row_of l.registry) l.name
