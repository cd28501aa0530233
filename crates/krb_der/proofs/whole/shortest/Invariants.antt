use Rattle.std.proofs.Common.{◌≡◌, ◌≤◌, length}
use Rattle.krb_der.specs.Inner.Shortest.{shortest_of}
use Rattle.krb_der.proofs.whole.shortest.Given as goal

abbrev pub invariant-loop-rest : goal.invariant-loop-rest
invariant-loop-rest l = (shortest_of l.rest ≡ shortest_of l.bytes) × (length l.rest ≤ length l.bytes)

abbrev pub decreases-loop-rest : goal.decreases-loop-rest
decreases-loop-rest l = length l.rest
