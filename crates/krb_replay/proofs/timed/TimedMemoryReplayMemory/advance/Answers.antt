use Rattle.std.proofs.Common.{◌≡◌, ◌+◌, ◌-◌, ◌≤◌, ◌-ℤ◌, ◌∙◌, ℤ, None, Some, length, pos, Option, ap, sym, subst, arith, to_z, of_z}
use Rattle.std.specs.Int.{w64}
use Rattle.std.proofs.lemmas.Int.{ints}
use Rattle.krb_replay.specs.Memory.{Memory, held_of, later_of}
use Rattle.krb_replay.specs.Inner.Held.{IsLater, number_before, since}
use Rattle.krb_replay.proofs.TimedLaws.{Forgets, forgotten, frees_dropped, is_later_of, shrinks}
use Rattle.krb_replay.proofs.timed.TimedMemoryReplayMemory.advance.Goals as goal

choice : (c : goal.After-self-2-1)
    → IsLater c.self.inside.oldest (later_of c.args.self.now.latest c.args.moment -ℤ pos c.args.skew) (to_z w64 (of_z w64 c.later_moment-oldest.result))
choice c =
    let at = c.micros.ensures in
    let skew = c.micros-2.ensures.value in
    let later = c.later-latest.ensures in
    let latest : c.self.inside.latest ≡ c.args.self.now.latest = ap (λ memory. memory.latest) c.self.view_is in
    let r : to_z w64 (of_z w64 c.later_moment-oldest.result) ≡ c.later_moment-oldest.result = omega (arith, ints) in
    let o : to_z w64 (of_z w64 c.self.inside.oldest) ≡ c.self.inside.oldest = omega (arith, ints) in
    let cut : to_z w64 (of_z w64 (to_z w64 (of_z w64 c.micros.result) -ℤ to_z w64 (of_z w64 c.micros-2.result))) ≡ c.micros.result -ℤ c.micros-2.result = omega (arith, ints) in
    let value : c.micros.result -ℤ c.micros-2.result ≡ later_of c.args.self.now.latest c.args.moment -ℤ pos c.args.skew =
    ap (λ (time : ℤ). time -ℤ c.micros-2.result) (at ∙ (later ∙ ap (λ (moment : Option ℤ). later_of moment c.args.moment) latest))
    ∙ ap (λ (span : ℤ). later_of c.args.self.now.latest c.args.moment -ℤ span) skew in
    subst (λ (one : ℤ). IsLater one (later_of c.args.self.now.latest c.args.moment -ℤ pos c.args.skew) (to_z w64 (of_z w64 c.later_moment-oldest.result))) o
    (subst (λ (other : ℤ). IsLater (to_z w64 (of_z w64 c.self.inside.oldest)) other (to_z w64 (of_z w64 c.later_moment-oldest.result))) (cut ∙ value)
    (subst (λ (result : ℤ). IsLater (to_z w64 (of_z w64 c.self.inside.oldest)) (to_z w64 (of_z w64 (to_z w64 (of_z w64 c.micros.result) -ℤ to_z w64 (of_z w64 c.micros-2.result)))) result) (sym r)
    c.later_moment-oldest.ensures))

left : (c : goal.After-self-2-1)
    → Forgets c.args.self.now.stamps (since (to_z w64 (of_z w64 c.later_moment-oldest.result)) c.free_some.new.held)
    (later_of c.args.self.now.latest c.args.moment -ℤ pos c.args.skew)
left c =
    forgotten c.self.inside.oldest (later_of c.args.self.now.latest c.args.moment -ℤ pos c.args.skew) (to_z w64 (of_z w64 c.later_moment-oldest.result))
    c.self.inside.held c.free_some.new.held c.args.self.now.stamps (choice c)
    c.free_some.ensures.same (ap (λ memory. memory.stamps) c.self.view_is)

pub returns-clause-none_added : goal.returns-clause-none_added
returns-clause-none_added c = (left c).none_added

pub returns-clause-kept : goal.returns-clause-kept
returns-clause-kept c = (left c).kept

pub returns-clause-forgets : goal.returns-clause-forgets
returns-clause-forgets c = (left c).forgets

pub returns-clause-oldest : goal.returns-clause-oldest
returns-clause-oldest c =
    let r : to_z w64 (of_z w64 c.later_moment-oldest.result) ≡ c.later_moment-oldest.result = omega (arith, ints) in
    let mine : c.self.inside.oldest ≡ c.args.self.now.oldest = ap (λ memory. memory.oldest) c.self.view_is in
    r ∙ (is_later_of c.self.inside.oldest (later_of c.args.self.now.latest c.args.moment -ℤ pos c.args.skew) c.later_moment-oldest.result
    (subst (λ (z : ℤ). IsLater c.self.inside.oldest (later_of c.args.self.now.latest c.args.moment -ℤ pos c.args.skew) z) r (choice c))
    ∙ ap (λ (z : ℤ). later_of (Some z) (later_of c.args.self.now.latest c.args.moment -ℤ pos c.args.skew)) mine)

pub returns-clause-frees : goal.returns-clause-frees
returns-clause-frees c =
    let later : ℤ = to_z w64 (of_z w64 c.later_moment-oldest.result) in
    subst (λ (memory : Memory). number_before None later c.free_some.new.held ≡ held_of memory - length (since later c.free_some.new.held) - 16) c.self.view_is
    (frees_dropped c.self.inside.oldest later c.self.inside.held c.free_some.new.held c.free_some.ensures.same c.free_some.ensures.frees)

pub returns-clause-shrinks : goal.returns-clause-shrinks
returns-clause-shrinks c =
    let later : ℤ = to_z w64 (of_z w64 c.later_moment-oldest.result) in
    subst (λ (memory : Memory). length (since later c.free_some.new.held) + number_before None later c.free_some.new.held ≤ held_of memory) c.self.view_is
    (shrinks c.self.inside.oldest later c.self.inside.held c.free_some.new.held c.free_some.ensures.frees)
