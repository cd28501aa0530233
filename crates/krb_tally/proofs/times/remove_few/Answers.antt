use Rattle.std.proofs.Common.{◌≡◌, ◌∙◌, ◌∷◌, ℤ, List, arith, of_z, subst, sym, to_z}
use Rattle.std.specs.Int.{w64}
use Rattle.std.specs.List.Sorted.{IsPermutation}
use Rattle.std.proofs.lemmas.Int.{ints}
use Rattle.std.proofs.lemmas.List.Sorted.{IsPermutation-remove}
use Rattle.krb_tally.proofs.RemovalLaws.{gone}
use Rattle.krb_tally.proofs.times.remove_few.Goals as goal

pub returns : goal.returns
returns c =
    let t : to_z w64 (of_z w64 c.args.time) ≡ c.args.time = omega (arith, ints) in
    let here = c.in-Some.ensures.here c.args.time ∙ t in
    let long = c.len.ensures.len in
    gone c.args.times.now c.take.new.self c.args.time (omega arith) (c.in-Some.at, c.in-Some.ensures.within, here)
    (subst (λ (items : List ℤ). IsPermutation c.args.times.now (c.args.time ∷ items)) (sym c.take.ensures.others)
    (IsPermutation-remove c.args.times.now c.in-Some.at c.args.time c.in-Some.ensures.within (sym here)))
