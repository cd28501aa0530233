use Rattle.std.proofs.Common.{arith}
use Rattle.krb_context.proofs.Rings.{empty_ring}
use Rattle.krb_context.proofs.order.Window.new.Goals as goal

pub invariant_of-result : goal.invariant_of-result
invariant_of-result c = empty_ring _ (omega (arith, c.from.ensures))
