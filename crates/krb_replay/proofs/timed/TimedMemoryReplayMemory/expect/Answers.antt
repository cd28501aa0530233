use Rattle.std.proofs.Common.{◌≡◌, ◌+◌, ◌-◌, ◌≤◌, ◌∙◌, ℤ, None, length, refl, ap, subst, arith, to_z, of_z}
use Rattle.std.specs.Int.{w64}
use Rattle.std.proofs.lemmas.Int.{ints}
use Rattle.krb_replay.specs.Memory.{Memory, held_of}
use Rattle.krb_replay.specs.Inner.Held.{FreesAtMost, number_before, since}
use Rattle.krb_replay.proofs.TimedLaws.{frees_16, reached_same, shrinks}
use Rattle.krb_replay.proofs.timed.TimedMemoryReplayMemory.expect.Goals as goal

pub returns-clause-set : goal.returns-clause-set
returns-clause-set c =
    let o : to_z w64 (of_z w64 c.self.inside.oldest) ≡ c.self.inside.oldest = omega (arith, ints) in
    reached_same c.self.inside.oldest c.self.inside.oldest c.self.inside.held c.free_some.new.held c.free_some.new.held c.args.self.now.stamps
    (subst (λ (z : ℤ). since z c.free_some.new.held ≡ since z c.self.inside.held) o c.free_some.ensures.same) (ap (λ memory. memory.stamps) c.self.view_is) refl

pub returns-clause-stamps : goal.returns-clause-stamps
returns-clause-stamps c =
    let o : to_z w64 (of_z w64 c.self.inside.oldest) ≡ c.self.inside.oldest = omega (arith, ints) in
    subst (λ (z : ℤ). since z c.free_some.new.held ≡ since z c.self.inside.held) o c.free_some.ensures.same ∙ ap (λ memory. memory.stamps) c.self.view_is

pub returns-clause-frees : goal.returns-clause-frees
returns-clause-frees c =
    let o : to_z w64 (of_z w64 c.self.inside.oldest) ≡ c.self.inside.oldest = omega (arith, ints) in
    subst (λ (memory : Memory). number_before None c.self.inside.oldest c.free_some.new.held ≡ memory.unfreed - 16) c.self.view_is
    (frees_16 c.self.inside.oldest c.self.inside.held c.free_some.new.held
    (subst (λ (z : ℤ). since z c.free_some.new.held ≡ since z c.self.inside.held) o c.free_some.ensures.same)
    (subst (λ (z : ℤ). FreesAtMost 16 z c.self.inside.held c.free_some.new.held) o c.free_some.ensures.frees))

pub returns-clause-shrinks : goal.returns-clause-shrinks
returns-clause-shrinks c =
    let o : to_z w64 (of_z w64 c.self.inside.oldest) ≡ c.self.inside.oldest = omega (arith, ints) in
    subst (λ (memory : Memory). length (since c.self.inside.oldest c.free_some.new.held) + number_before None c.self.inside.oldest c.free_some.new.held ≤ held_of memory) c.self.view_is
    (shrinks c.self.inside.oldest c.self.inside.oldest c.self.inside.held c.free_some.new.held
    (subst (λ (z : ℤ). FreesAtMost 16 z c.self.inside.held c.free_some.new.held) o c.free_some.ensures.frees))
