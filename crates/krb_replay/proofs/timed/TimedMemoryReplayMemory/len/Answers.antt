use Rattle.std.proofs.Common.{◌≡◌, ◌∙◌, ℤ, None, ap, arith, of_z, to_z}
use Rattle.std.specs.Int.{w64}
use Rattle.std.proofs.lemmas.Int.{ints}
use Rattle.krb_replay.specs.Inner.Held.{number_of, since}
use Rattle.krb_replay.proofs.TimedLaws.{live_size}
use Rattle.krb_replay.proofs.timed.TimedMemoryReplayMemory.len.Goals as goal

pub returns : goal.returns
returns c =
    let o : to_z w64 (of_z w64 c.self.inside.oldest) ≡ c.self.inside.oldest = omega (arith, ints) in
    live_size c.self.inside.oldest c.self.inside.held c.args.self.now.stamps c.number_since.result c.number_since.ensures.once
    (ap (λ memory. memory.stamps) c.self.view_is)
    (c.number_since.ensures.number ∙ ap (λ (oldest : ℤ). number_of None (since oldest c.self.inside.held)) o)
