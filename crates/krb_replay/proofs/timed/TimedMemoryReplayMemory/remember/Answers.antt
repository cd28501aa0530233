use Rattle.std.proofs.Common.{◌≡◌, ◌∙◌, ◌+◌, ◌-◌, ◌≤◌, ◌≤ℤ◌, None, List, length, ap, sym, subst, arith, to_z, of_z, ℤ, Contains}
use Rattle.std.specs.Prelude.{OnOk, OnErr}
use Rattle.krb_replay.specs.Memory.{AddsStamp, FreesSome, Memory, SameStamps, earlier_of, held_of}
use Rattle.krb_replay.specs.Stamp.{Stamp}
use Rattle.std.specs.Int.{w64}
use Rattle.std.proofs.lemmas.Int.{ints}
use Rattle.krb_replay.specs.Inner.Held.{FreesAtMost, number_before, since}
use Rattle.krb_replay.proofs.TimedLaws.{added_reached, frees_16_for, frees_all, frees_some, grows_by_one, same_list, same_reached, stays_early, in_set}
use Rattle.krb_replay.proofs.timed.TimedMemoryReplayMemory.remember.Goals as goal

pub returns-clause-ok : goal.returns-clause-ok
returns-clause-ok c =
    let o : to_z w64 (of_z w64 c.self.inside.oldest) ≡ c.self.inside.oldest = omega (arith, ints) in
    let at = c.micros.ensures in
    let time = c.time.ensures in
    let reached = c.reach_back-oldest.ensures.reached in
    let r : to_z w64 (of_z w64 c.reach_back-oldest.result) ≡ c.reach_back-oldest.result = omega (arith, ints) in
    let still : since c.reach_back-oldest.result c.free_some.new.held ≡ since c.reach_back-oldest.result c.reach_back-oldest.new.held =
    subst (λ (z : ℤ). since z c.free_some.new.held ≡ since z c.reach_back-oldest.new.held) r c.free_some.ensures.same in
    subst (λ (z : ℤ). OnOk c.add-added.result (AddsStamp (Contains c.args.self.now.stamps) (Contains (since z c.add-added.new.self)) c.args.tuple)) (sym r)
    (added_reached c.self.inside.oldest c.reach_back-oldest.result c.self.inside.held c.free_some.new.held c.add-added.new.self
    c.args.self.now.stamps c.args.tuple c.add-added.result
    (still ∙ (c.reach_back-oldest.ensures.same ∙ ap (λ (oldest : ℤ). since oldest c.self.inside.held) o)) (ap (λ memory. memory.stamps) c.self.view_is)
    (omega (arith, ints)) c.add-added.ensures.ok)

pub returns-clause-err : goal.returns-clause-err
returns-clause-err c =
    let o : to_z w64 (of_z w64 c.self.inside.oldest) ≡ c.self.inside.oldest = omega (arith, ints) in
    let r : to_z w64 (of_z w64 c.reach_back-oldest.result) ≡ c.reach_back-oldest.result = omega (arith, ints) in
    let still : since c.reach_back-oldest.result c.free_some.new.held ≡ since c.reach_back-oldest.result c.reach_back-oldest.new.held =
    subst (λ (z : ℤ). since z c.free_some.new.held ≡ since z c.reach_back-oldest.new.held) r c.free_some.ensures.same in
    subst (λ (z : ℤ). OnErr c.add-added.result (SameStamps (Contains c.args.self.now.stamps) (Contains (since z c.add-added.new.self)))) (sym r)
    (same_reached c.self.inside.oldest c.reach_back-oldest.result c.self.inside.held c.free_some.new.held c.add-added.new.self
    c.args.self.now.stamps c.add-added.result
    (still ∙ (c.reach_back-oldest.ensures.same ∙ ap (λ (oldest : ℤ). since oldest c.self.inside.held) o)) (ap (λ memory. memory.stamps) c.self.view_is)
    c.add-added.ensures.err)

pub returns-clause-unchanged : goal.returns-clause-unchanged
returns-clause-unchanged c =
    let o : to_z w64 (of_z w64 c.self.inside.oldest) ≡ c.self.inside.oldest = omega (arith, ints) in
    let r : to_z w64 (of_z w64 c.reach_back-oldest.result) ≡ c.reach_back-oldest.result = omega (arith, ints) in
    same_list c.self.inside.oldest (to_z w64 (of_z w64 c.reach_back-oldest.result)) c.self.inside.held c.free_some.new.held c.add-added.new.self
    c.args.self.now.stamps c.add-added.result
    (c.free_some.ensures.same ∙ (ap (λ (z : ℤ). since z c.reach_back-oldest.new.held) r
    ∙ (c.reach_back-oldest.ensures.same ∙ ap (λ (oldest : ℤ). since oldest c.self.inside.held) o)))
    (ap (λ memory. memory.stamps) c.self.view_is) c.add-added.ensures.err

pub returns-clause-oldest : goal.returns-clause-oldest
returns-clause-oldest c =
    let o : to_z w64 (of_z w64 c.self.inside.oldest) ≡ c.self.inside.oldest = omega (arith, ints) in
    let r : to_z w64 (of_z w64 c.reach_back-oldest.result) ≡ c.reach_back-oldest.result = omega (arith, ints) in
    let t : to_z w64 (of_z w64 c.micros.result) ≡ c.micros.result = omega (arith, ints) in
    r ∙ (c.reach_back-oldest.ensures.value
    ∙ (ap (λ (z : ℤ). earlier_of z (to_z w64 (of_z w64 c.micros.result))) (o ∙ ap (λ memory. memory.oldest) c.self.view_is)
    ∙ ap (λ (z : ℤ). earlier_of c.args.self.now.oldest z) (t ∙ (c.micros.ensures ∙ c.time.ensures))))

pub returns-clause-frees : goal.returns-clause-frees
returns-clause-frees c =
    let o : to_z w64 (of_z w64 c.self.inside.oldest) ≡ c.self.inside.oldest = omega (arith, ints) in
    let at = c.micros.ensures in
    let time = c.time.ensures in
    let reached = c.reach_back-oldest.ensures.reached in
    let r : to_z w64 (of_z w64 c.reach_back-oldest.result) ≡ c.reach_back-oldest.result = omega (arith, ints) in
    subst (λ (memory : Memory). FreesSome 16 memory.unfreed (number_before None (to_z w64 (of_z w64 c.reach_back-oldest.result)) c.add-added.new.self)) c.self.view_is
    (subst (λ (z : ℤ). FreesSome 16 (number_before None c.self.inside.oldest c.self.inside.held) (number_before None z c.add-added.new.self)) (sym r)
    (frees_some c.self.inside.oldest c.reach_back-oldest.result c.self.inside.held c.reach_back-oldest.new.held c.free_some.new.held c.add-added.new.self
    (c.reach_back-oldest.ensures.same ∙ ap (λ (oldest : ℤ). since oldest c.self.inside.held) o) c.reach_back-oldest.ensures.shrinks
    (subst (λ (z : ℤ). since z c.free_some.new.held ≡ since z c.reach_back-oldest.new.held) r c.free_some.ensures.same)
    (subst (λ (z : ℤ). FreesAtMost 16 z c.reach_back-oldest.new.held c.free_some.new.held) r c.free_some.ensures.frees)
    (c.add-added.ensures.before c.reach_back-oldest.result (omega (arith, ints)))))

pub returns-clause-frees_16 : goal.returns-clause-frees_16
returns-clause-frees_16 c = λ early.
    let o : to_z w64 (of_z w64 c.self.inside.oldest) ≡ c.self.inside.oldest = omega (arith, ints) in
    let r : to_z w64 (of_z w64 c.reach_back-oldest.result) ≡ c.reach_back-oldest.result = omega (arith, ints) in
    let t : to_z w64 (of_z w64 c.micros.result) ≡ c.micros.result = omega (arith, ints) in
    let at = c.micros.ensures in
    let time = c.time.ensures in
    let mine : c.self.inside.oldest ≡ c.args.self.now.oldest = ap (λ memory. memory.oldest) c.self.view_is in
    let reaches : c.self.inside.oldest ≤ℤ c.micros.result = omega (arith, ints) in
    let kept : c.reach_back-oldest.new.held ≡ c.self.inside.held = c.reach_back-oldest.ensures.stays (omega (arith, ints)) in
    let stays : c.reach_back-oldest.result ≡ c.self.inside.oldest =
    c.reach_back-oldest.ensures.value ∙ (ap (λ (z : ℤ). earlier_of z (to_z w64 (of_z w64 c.micros.result))) o
    ∙ (ap (λ (z : ℤ). earlier_of c.self.inside.oldest z) t ∙ sym (stays_early c.self.inside.oldest c.micros.result reaches))) in
    let all : to_z w64 (of_z w64 c.reach_back-oldest.result) ≡ c.self.inside.oldest = r ∙ stays in
    subst (λ (memory : Memory). number_before None (to_z w64 (of_z w64 c.reach_back-oldest.result)) c.add-added.new.self ≡ memory.unfreed - 16) c.self.view_is
    (subst (λ (z : ℤ). number_before None z c.add-added.new.self ≡ number_before None c.self.inside.oldest c.self.inside.held - 16) (sym all)
    (frees_16_for c.self.inside.oldest c.self.inside.held c.free_some.new.held c.add-added.new.self
    (subst (λ (z : ℤ). since z c.free_some.new.held ≡ since z c.self.inside.held) all
    (c.free_some.ensures.same ∙ ap (λ (stamps : List Stamp). since (to_z w64 (of_z w64 c.reach_back-oldest.result)) stamps) kept))
    (subst (λ (z : ℤ). FreesAtMost 16 z c.self.inside.held c.free_some.new.held) all
    (subst (λ (stamps : List Stamp). FreesAtMost 16 (to_z w64 (of_z w64 c.reach_back-oldest.result)) stamps c.free_some.new.held) kept c.free_some.ensures.frees))
    (c.add-added.ensures.before c.self.inside.oldest (omega (arith, ints)))))

pub returns-clause-grows : goal.returns-clause-grows
returns-clause-grows c =
    subst (λ (memory : Memory). length (since (to_z w64 (of_z w64 c.reach_back-oldest.result)) c.add-added.new.self)
    + number_before None (to_z w64 (of_z w64 c.reach_back-oldest.result)) c.add-added.new.self ≤ held_of memory + 1) c.self.view_is
    (grows_by_one c.self.inside.oldest (to_z w64 (of_z w64 c.reach_back-oldest.result)) c.self.inside.held c.reach_back-oldest.new.held c.free_some.new.held c.add-added.new.self
    c.reach_back-oldest.ensures.shrinks c.free_some.ensures.frees c.add-added.ensures.grows)

pub returns-clause-frees_all : goal.returns-clause-frees_all
returns-clause-frees_all c = λ late.
    let o : to_z w64 (of_z w64 c.self.inside.oldest) ≡ c.self.inside.oldest = omega (arith, ints) in
    let at = c.micros.ensures in
    let time = c.time.ensures in
    let t : to_z w64 (of_z w64 c.micros.result) ≡ c.micros.result = omega (arith, ints) in
    let reached = c.reach_back-oldest.ensures.reached in
    let mine : c.self.inside.oldest ≡ c.args.self.now.oldest = ap (λ memory. memory.oldest) c.self.view_is in
    let r : to_z w64 (of_z w64 c.reach_back-oldest.result) ≡ c.reach_back-oldest.result = omega (arith, ints) in
    let live : since c.reach_back-oldest.result c.reach_back-oldest.new.held ≡ c.reach_back-oldest.new.held = c.reach_back-oldest.ensures.live (omega (arith, ints)) in
    subst (λ (z : ℤ). number_before None z c.add-added.new.self ≡ 0) (sym r)
    (frees_all c.reach_back-oldest.result c.reach_back-oldest.new.held c.free_some.new.held c.add-added.new.self live
    (subst (λ (z : ℤ). since z c.free_some.new.held ≡ since z c.reach_back-oldest.new.held) r c.free_some.ensures.same)
    (subst (λ (z : ℤ). FreesAtMost 16 z c.reach_back-oldest.new.held c.free_some.new.held) r c.free_some.ensures.frees)
    (c.add-added.ensures.before c.reach_back-oldest.result (omega (arith, ints))))

pub returns-clause-repeat : goal.returns-clause-repeat
returns-clause-repeat c = λ there.
    let o : to_z w64 (of_z w64 c.self.inside.oldest) ≡ c.self.inside.oldest = omega (arith, ints) in
    let r : to_z w64 (of_z w64 c.reach_back-oldest.result) ≡ c.reach_back-oldest.result = omega (arith, ints) in
    let still : since c.reach_back-oldest.result c.free_some.new.held ≡ since c.reach_back-oldest.result c.reach_back-oldest.new.held =
    subst (λ (z : ℤ). since z c.free_some.new.held ≡ since z c.reach_back-oldest.new.held) r c.free_some.ensures.same in
    let same : since c.reach_back-oldest.result c.free_some.new.held ≡ c.args.self.now.stamps =
    still ∙ (c.reach_back-oldest.ensures.same ∙ (ap (λ (oldest : ℤ). since oldest c.self.inside.held) o ∙ ap (λ memory. memory.stamps) c.self.view_is)) in
    c.add-added.ensures.repeat (in_set c.reach_back-oldest.result c.free_some.new.held c.args.tuple
    (subst (λ (list : List Stamp). Contains list c.args.tuple) (sym same) there)).0
