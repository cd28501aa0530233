use Rattle.std.proofs.Common.{◌≡◌, length}
use Rattle.krb_der.specs.Kind.{each}
use Rattle.krb_der.specs.Computed.Gives.{checked}
use Rattle.krb_der.specs.Computed.Read.{fields_at}
use Rattle.krb_der.proofs.cursor.Cursor.check_each_here.Given as goal

abbrev pub invariant-loop-left : goal.invariant-loop-left
invariant-loop-left g l = checked (fields_at (each g.T.Element.kind) l.left) ≡ checked (fields_at (each g.T.Element.kind) l.self)

abbrev pub decreases-loop-left : goal.decreases-loop-left
decreases-loop-left g l = length l.left.rest
