use Rattle.std.proofs.Common.{◌≡◌, drop}
use Rattle.krb_index.specs.Inner.Maxima.{JoinsFrom}
use Rattle.krb_index.proofs.maxima.join_all.Given as goal

abbrev pub invariant-loop-node : goal.invariant-loop-node
invariant-loop-node l = record {
  joins : JoinsFrom l.tree l.node l.leaves;
  leaves : drop l.leaves l.tree ≡ drop l.leaves l.fn.tree;
}
