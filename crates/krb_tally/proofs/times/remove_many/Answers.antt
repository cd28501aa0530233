use Rattle.std.proofs.Common.{◌≡◌, Bool, arith, of_z, subst, sym, to_z}
use Rattle.std.specs.Int.{w64}
use Rattle.std.proofs.lemmas.Int.{ints}
use Rattle.krb_tally.specs.Inner.Removal.{Removes}
use Rattle.krb_tally.proofs.RemovalLaws.{taken_out}
use Rattle.krb_tally.proofs.times.remove_many.Goals as goal

pub returns : goal.returns
returns c =
    let t : to_z w64 (of_z w64 c.args.time) ≡ c.args.time = omega (arith, ints) in
    let long = c.len.ensures.len in
    subst (λ (answer : Bool). Removes c.args.times.now c.args.time answer c.remove.new.self) (sym c.is_some.ensures)
    (taken_out c.remove.result c.args.times.now c.remove.new.self _ c.args.time t (omega arith) c.remove.ensures.item c.remove.ensures.others)
