use Rattle.std.proofs.Common.{◌-◌}
use Rattle.krb_index.proofs.MaximaLaws.{IsFirstOfRow}
use Rattle.krb_index.proofs.maxima.first_leaf.Given as goal

abbrev pub invariant-loop-node : goal.invariant-loop-node
invariant-loop-node l = IsFirstOfRow l.tree l.leaves l.least l.node

abbrev pub decreases-loop-node : goal.decreases-loop-node
decreases-loop-node l = l.leaves - l.node
