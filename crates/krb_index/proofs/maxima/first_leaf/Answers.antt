use Rattle.std.proofs.Common.{ℕ, ◌*◌, inl, inr, sym, subst, arith}
use Rattle.std.specs.Prelude.{slice_index}
use Rattle.std.proofs.lemmas.Bool.{cases_lt}
use Rattle.std.proofs.lemmas.Nat.{pow_pos}
use Rattle.krb_index.proofs.MaximaLaws.{at_root, first_child, first_found, IsFirstOfRow, second_child}
use Rattle.krb_index.proofs.maxima.first_leaf.Goals as goal

pub loop-node-init : goal.loop-node-init
loop-node-init c = at_root c.args.tree.now c.args.leaves c.args.least c.requires.tree c.requires.root

pub loop-node-preserved : goal.loop-node-preserved
loop-node-preserved c =
    let tree = c.args.tree.now in
    let node = c.loop-node.node in
    let Row : ℕ → Type 0 = λ n. IsFirstOfRow tree c.args.leaves c.args.least n in
    elim (cases_lt (slice_index tree (2 * node)) c.args.least) [
      | inl less ↦ subst Row (sym (c.child_of-node.ensures.second less)) (second_child tree c.args.leaves c.args.least node c.requires.tree c.loop-node-test.true c.loop-node.invariant less)
      | inr great ↦ subst Row (sym (c.child_of-node.ensures.first great)) (first_child tree c.args.leaves c.args.least node c.requires.tree c.loop-node-test.true c.loop-node.invariant great)
    ]

pub loop-node-smaller : goal.loop-node-smaller
loop-node-smaller c =
    let some = pow_pos c.loop-node.invariant.depth in
    let from = c.loop-node.invariant.from in
    elim (cases_lt (slice_index c.args.tree.now (2 * c.loop-node.node)) c.args.least) [
      | inl less ↦ omega (arith, c.child_of-node.ensures.second less)
      | inr great ↦ omega (arith, c.child_of-node.ensures.first great)
    ]

pub returns-clause-first : goal.returns-clause-first
returns-clause-first c = first_found c.args.tree.now c.args.leaves c.args.least c.loop-node.node c.requires.tree c.requires.some (omega arith) c.loop-node.invariant
