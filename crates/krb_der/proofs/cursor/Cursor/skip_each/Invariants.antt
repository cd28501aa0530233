use Rattle.std.proofs.Common.{◌≡◌, length}
use Rattle.krb_der.specs.Computed.Read.{enter_at}
use Rattle.krb_der.specs.Computed.Parts.{all_at}
use Rattle.krb_der.proofs.cursor.Cursor.skip_each.Given as goal

abbrev pub invariant-loop-left : goal.invariant-loop-left
invariant-loop-left l = all_at (enter_at l.tag) l.left ≡ all_at (enter_at l.tag) l.self

abbrev pub decreases-loop-left : goal.decreases-loop-left
decreases-loop-left l = length l.left.rest
