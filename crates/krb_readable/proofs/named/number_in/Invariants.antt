use Rattle.std.proofs.Common.{◌≡◌, drop, map}
use Rattle.krb_readable.specs.Named.{number_in, row_of}
use Rattle.krb_readable.proofs.named.number_in.Given as goal

abbrev pub invariant-loop-row : goal.invariant-loop-row
invariant-loop-row l = number_in (map row_of (drop l.row-index l.registry)) l.name ≡ number_in (map row_of l.registry) l.name
