use Rattle.std.proofs.Common.{List, ℕ, map, refl, sym, ap, ◌∙◌}
use Rattle.std.specs.Prelude.{slice_set}
use Rattle.std.proofs.lemmas.List.{map-set}
use Rattle.krb_keytab.specs.declared.holes.Hole.{Hole}
use Rattle.krb_keytab.proofs.HoleLaws.{is_taken, none_long}
use Rattle.krb_keytab.proofs.holes.Holes.take.Goals as goal

pub invariant_of-self : goal.invariant_of-self
invariant_of-self c =
    let one : Hole = record c.taken_at.result { size = 0 } in
    c.clear.ensures
    ∙ ap (λ (l : List ℕ). slice_set l c.in-Some.at 0) c.self.invariant
    ∙ sym (map-set (λ (hole : Hole). hole.size) c.self.inside.holes.items c.in-Some.at one)
    ∙ ap (map (λ (hole : Hole). hole.size)) (sym c.taken_at.ensures.left)

pub returns-in-Some : goal.returns-in-Some
returns-in-Some c =
    rw (← c.self.view_is, c.taken_at.ensures.left)
    (is_taken c.self.inside.holes.items c.self.inside.sizes c.args.size c.in-Some.at c.taken_at.result c.requires c.self.invariant c.in-Some.ensures.first c.taken_at.ensures.hole)

pub returns-in-None : goal.returns-in-None
returns-in-None c =
    rw (← c.self.view_is) (none_long c.self.inside.holes.items c.self.inside.sizes c.args.size c.self.invariant c.in-None.ensures.first, refl)
