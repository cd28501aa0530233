use Rattle.std.proofs.Common.{◌≡◌, ◌+◌, ◌-◌, ◌<◌, length, subst, ◌∙◌, arith}
use Rattle.std.proofs.lemmas.List.{drop-set-lt}
use Rattle.krb_index.specs.Inner.Maxima.{greater_child, JoinsFrom}
use Rattle.krb_index.proofs.MaximaLaws.{one_joined}
use Rattle.krb_index.proofs.maxima.join_all.Goals as goal

pub loop-node-preserved : goal.loop-node-preserved
loop-node-preserved c =
    let tree = c.loop-node.tree in
    let node = c.loop-node.node - 1 in
    let next : c.loop-node.node ≡ node + 1 = omega arith in
    let within : node < length tree = omega arith in
    rw c.join.ensures (record {
      joins = one_joined tree node c.args.leaves (omega arith) within (subst (λ n. JoinsFrom tree n c.args.leaves) next c.loop-node.invariant.joins);
      leaves = drop-set-lt c.args.leaves tree node (greater_child tree node) (omega arith) ∙ c.loop-node.invariant.leaves;
    })
