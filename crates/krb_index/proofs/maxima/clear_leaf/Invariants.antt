use Rattle.std.proofs.Common.{◌≡◌, ◌/◌, ◌<◌, drop, length}
use Rattle.std.specs.Prelude.{slice_set}
use Rattle.krb_index.proofs.MaximaLaws.{JoinsBut}
use Rattle.krb_index.proofs.maxima.clear_leaf.Given as goal

abbrev pub invariant-loop-node : goal.invariant-loop-node
invariant-loop-node l = record {
  some : 0 < l.node;
  within : l.node < length l.tree;
  joins : JoinsBut l.tree (l.node / 2) l.leaves;
  leaves : drop l.leaves l.tree ≡ slice_set (drop l.leaves l.fn.tree) l.at 0;
}

abbrev pub decreases-loop-node : goal.decreases-loop-node
decreases-loop-node l = l.node
