use Rattle.std.proofs.Common.{ap, arith}
use Rattle.std.proofs.lemmas.Int.{ints}
use Rattle.krb_replay.proofs.TimedLaws.{old_lacks, recent_found}
use Rattle.krb_replay.proofs.timed.TimedMemoryReplayMemory.contains.Goals as goal

pub returns-then-micros-self : goal.returns-then-micros-self
returns-then-micros-self c =
    let at = c.micros.ensures in
    let time = c.time.ensures in
    let late = c.if-micros-self.true in
    recent_found c.self.inside.oldest c.self.inside.held c.args.self.now.stamps c.args.tuple.now c.contains.result (ap (λ memory. memory.stamps) c.self.view_is)
    (omega (arith, ints)) c.contains.ensures

pub returns-else-micros-self : goal.returns-else-micros-self
returns-else-micros-self c =
    let at = c.micros.ensures in
    let time = c.time.ensures in
    let early = c.if-micros-self.false in (
      λ yes. absurd (cc),
      λ there. absurd (old_lacks c.self.inside.oldest c.self.inside.held c.args.self.now.stamps c.args.tuple.now (ap (λ memory. memory.stamps) c.self.view_is) (omega (arith, ints)) there),
    )
