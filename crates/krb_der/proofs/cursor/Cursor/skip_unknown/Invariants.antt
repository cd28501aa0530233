use Rattle.std.proofs.Common.{◌≡◌, length}
use Rattle.krb_der.specs.Computed.Parts.{unknown_at, all_at}
use Rattle.krb_der.proofs.cursor.Cursor.skip_unknown.Given as goal

abbrev pub invariant-loop-left : goal.invariant-loop-left
invariant-loop-left l = all_at (unknown_at l.from l.to) l.left ≡ all_at (unknown_at l.from l.to) l.self

abbrev pub decreases-loop-left : goal.decreases-loop-left
decreases-loop-left l = length l.left.rest
