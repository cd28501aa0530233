use Rattle.std.proofs.Common.{rules, ◌<◌, arith}
use Rattle.std.specs.Prelude.{slice_index}
use Rattle.krb_index.proofs.MaximaLaws.{none_first, none_left}
use Rattle.krb_index.proofs.maxima.Maxima.first.Goals as goal
use Rattle.krb_index.proofs.maxima.Maxima.first.Goals.{then-tree-self-via-then-tree-self, then-tree-self-via-else-tree-self+then-number_at-least}

pub returns-then-tree-self : goal.returns-then-tree-self
returns-then-tree-self c = record {
  first =
      let tree = c.self.inside.tree.items in
      rw (← c.self.view_is) (elim c.then-tree-self.branch [
        | then-tree-self-via-then-tree-self w ↦ none_left tree c.self.inside.leaves c.args.least (omega (arith, w.if-tree-self.true))
        | then-tree-self-via-else-tree-self+then-number_at-least w ↦
            let root : slice_index tree 1 < c.args.least = omega (arith, rw c.as_slice-tree.ensures.value at w.number_at.ensures) in
            none_first tree c.self.inside.leaves c.args.least c.self.invariant root
      ]);
  bound = search rules;
}
