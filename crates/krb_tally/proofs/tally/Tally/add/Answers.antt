use Rattle.std.proofs.Common.{arith}
use Rattle.std.proofs.lemmas.List.Sorted.{length_permutation}
use Rattle.krb_tally.proofs.tally.Tally.add.Goals as goal

pub invariant_of-self-2 : goal.invariant_of-self-2
invariant_of-self-2 g c =
    let more = length_permutation _ _ c.in_ok-add_in.ensures.ok in
    let room = c.if-self.false in
    let all = c.self.invariant.0 in
    (omega arith, (omega arith, (c.in_ok-add_in.ensures.rising, c.in_ok-add_in.ensures.sorted)))
