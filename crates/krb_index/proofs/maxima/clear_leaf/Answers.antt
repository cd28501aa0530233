use Rattle.std.proofs.Common.{◌+◌, ◌/◌, ◌<◌, length, ◌∙◌, arith}
use Rattle.std.proofs.Math.Nat.{div-add-mod}
use Rattle.std.proofs.lemmas.List.{drop-set-add, drop-set-lt, length-drop, length-set}
use Rattle.std.proofs.lemmas.Nat.{pow_pos}
use Rattle.krb_index.specs.Inner.Maxima.{greater_child}
use Rattle.krb_index.proofs.MaximaLaws.{leaf_changed, node_joined}
use Rattle.krb_index.proofs.maxima.clear_leaf.Goals as goal

pub loop-node-init : goal.loop-node-init
loop-node-init c =
    let tree = c.args.tree.now in
    let leaves = c.args.leaves in
    let leaf = leaves + c.args.at in
    let is = c.requires.tree in
    let power = is.power.1 in
    let some = pow_pos is.power.0 in
    record {
      some = omega arith;
      within = omega (arith, length-drop leaves tree, length-set tree leaf 0);
      joins = leaf_changed tree leaf 0 leaves (omega arith) is.joins;
      leaves = drop-set-add leaves tree c.args.at 0;
    }

pub loop-node-preserved : goal.loop-node-preserved
loop-node-preserved c =
    let tree = c.loop-node.tree in
    let leaves = c.args.leaves in
    let node = c.loop-node.node / 2 in
    let half = div-add-mod c.loop-node.node 2 in
    let some : 0 < node = omega arith in
    let within : node < length tree = omega (arith, c.loop-node.invariant.within) in
    let before : node < leaves = omega (arith, length-set c.args.tree.now (leaves + c.args.at) 0, c.requires.tree.last) in
    rw c.join.ensures (record {
      some = some;
      within = omega (arith, length-set tree node (greater_child tree node));
      joins = node_joined tree node leaves some within c.loop-node.invariant.joins;
      leaves = drop-set-lt leaves tree node (greater_child tree node) before ∙ c.loop-node.invariant.leaves;
    })
