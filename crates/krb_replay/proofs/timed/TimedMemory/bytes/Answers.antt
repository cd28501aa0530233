use Rattle.std.proofs.Common.{◌≤◌, ◌*◌, ◌-◌, ◌^◌, min, subst, arith}
use Rattle.krb_replay.specs.Memory.{Memory, held_of}
use Rattle.krb_replay.proofs.TimedLaws.{all_held}
use Rattle.krb_replay.proofs.timed.TimedMemory.bytes.Goals as goal

pub returns-clause-least : goal.returns-clause-least
returns-clause-least c =
    let held = c.bytes.ensures.least in
    let all = all_held c.self.inside.oldest c.self.inside.held in
    subst (λ (memory : Memory). min (28 * held_of memory) (2 ^ 64 - 1) ≤ c.bytes.result) c.self.view_is (omega arith)

pub returns-clause-most : goal.returns-clause-most
returns-clause-most c =
    let held = c.bytes.ensures.most in
    let all = all_held c.self.inside.oldest c.self.inside.held in
    subst (λ (memory : Memory). c.bytes.result ≤ 228 * held_of memory) c.self.view_is (omega arith)
