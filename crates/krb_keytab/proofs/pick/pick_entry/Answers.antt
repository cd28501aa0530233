use Rattle.std.proofs.Common.{take, w32, to_z, of_z, subst, ℤ}
use Rattle.std.proofs.lemmas.Int.{to_z-of_z}
use Rattle.krb_keytab.specs.Inner.Pick.{Counts}
use Rattle.krb_keytab.specs.Pick.{IsChoiceBy, choice_of}
use Rattle.krb_keytab.proofs.PickLaws.{found_name, none_left, one_more, passed_over}
use Rattle.krb_keytab.proofs.pick.pick_entry.Goals as goal

pub loop-at-preserved : goal.loop-at-preserved
loop-at-preserved c =
    let Usable = Counts c.args.counted in
    let entries = c.args.entries.now in
    let name = c.args.name.now in
    let etype = to_z w32 (of_z w32 c.args.etype) in
    let from = c.loop-at.from in
    let at = c.in-Some.at in
    let found = rw c.new-sought.ensures at c.in-Some.ensures.found in
    let one = c.index-as_slice-at.result in
    let is = rw c.as_slice.ensures at c.index-as_slice-at.is in
    let before = passed_over Usable entries from at name etype c.args.kvno (choice_of c.loop-at.picked) found c.loop-at.invariant in
    let picked = c.or_entry-picked.ensures (take at entries) name (found_name entries from at name one found is) before in
    one_more Usable entries at one name etype c.args.kvno (choice_of c.or_entry-picked.result) c.in-Some.ensures.within is picked

pub returns : goal.returns
returns c =
    let Usable = Counts c.args.counted in
    let entries = c.args.entries.now in
    let name = c.args.name.now in
    subst (λ (z : ℤ). IsChoiceBy Usable entries name z c.args.kvno (choice_of c.loop-at.picked)) (to_z-of_z w32 c.args.etype c.ranges.etype)
    (none_left Usable entries c.loop-at.from name _ c.args.kvno (choice_of c.loop-at.picked) (rw c.new-sought.ensures at c.in_default.ensures.none) c.loop-at.invariant)
