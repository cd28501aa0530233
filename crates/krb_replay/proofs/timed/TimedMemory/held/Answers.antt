use Rattle.std.proofs.Common.{◌≡◌, ◌+◌, List, Contains, ap, sym, subst, arith}
use Rattle.krb_replay.specs.Memory.{IsSizeOf, Memory, held_of}
use Rattle.krb_replay.specs.Stamp.{Stamp}
use Rattle.krb_replay.proofs.TimedLaws.{all_held, set_size}
use Rattle.krb_replay.proofs.timed.TimedMemory.held.Goals as goal

pub returns-clause-least : goal.returns-clause-least
returns-clause-least c = λ size is.
    let set = set_size c.self.inside.oldest c.self.inside.held size c.len.ensures.once
    (subst (λ (stamps : List Stamp). IsSizeOf (Contains stamps) size) (sym (ap (λ memory. memory.stamps) c.self.view_is)) is) in
    let len = c.len.ensures.len in
    let all = all_held c.self.inside.oldest c.self.inside.held in
    omega arith

pub returns-clause-size : goal.returns-clause-size
returns-clause-size c = λ size is.
    let set = set_size c.self.inside.oldest c.self.inside.held size c.len.ensures.once
    (subst (λ (stamps : List Stamp). IsSizeOf (Contains stamps) size) (sym (ap (λ memory. memory.stamps) c.self.view_is)) is) in
    let len = c.len.ensures.len in
    let all = all_held c.self.inside.oldest c.self.inside.held in
    subst (λ (memory : Memory). c.len.result ≡ size + memory.unfreed) c.self.view_is (omega arith)

pub returns-clause-exact : goal.returns-clause-exact
returns-clause-exact c =
    let len = c.len.ensures.len in
    let all = all_held c.self.inside.oldest c.self.inside.held in
    subst (λ (memory : Memory). c.len.result ≡ held_of memory) c.self.view_is (omega arith)
