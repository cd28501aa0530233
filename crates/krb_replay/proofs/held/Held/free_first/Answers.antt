use Rattle.std.proofs.Common.{◌≤ℤ◌, List, arith, refl, subst}
use Rattle.std.specs.List.{All}
use Rattle.std.proofs.lemmas.Int.{ints}
use Rattle.krb_replay.specs.Stamp.{Stamp}
use Rattle.krb_replay.proofs.HeldLaws.{all_recent}
use Rattle.krb_replay.proofs.held.Held.free_first.Goals as goal

pub returns-then-timestamp-oldest-clause-none : goal.returns-then-timestamp-oldest-clause-none
returns-then-timestamp-oldest-clause-none c =
    λ no. (
      refl,
      all_recent c.args.oldest c.in-Some.first.now c.args.self.now
          (subst (λ (stamps : List Stamp). All (λ stamp. c.in-Some.first.now.time ≤ℤ stamp.time) stamps) c.self.view_is c.in-Some.ensures.least)
          (let at = c.timestamp.ensures in let late = c.if-timestamp-oldest.true in omega (arith, ints)),
    )
