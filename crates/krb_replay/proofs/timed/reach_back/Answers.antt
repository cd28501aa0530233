use Rattle.std.proofs.Common.{◌≡◌, ◌≤ℤ◌, ℤ, List, length, ap, sym, ◌∙◌, arith, to_z, of_z}
use Rattle.std.specs.Int.{w64}
use Rattle.std.proofs.lemmas.Int.{ints}
use Rattle.krb_replay.specs.Stamp.{Stamp}
use Rattle.krb_replay.specs.Inner.Held.{since}
use Rattle.krb_replay.proofs.HeldLaws.{recent_before}
use Rattle.krb_replay.proofs.TimedLaws.{goes_early, stays_early}
use Rattle.krb_replay.proofs.timed.reach_back.Goals as goal

-- what is held after all that is dropped was freed
left : (oldest time said told : ℤ) (held new : List Stamp) → said ≡ oldest → told ≡ time → time ≤ℤ oldest → (new ≡ held) × (since said held ≡ held) → since told new ≡ held
left oldest time said told held new o t less none =
    ap (λ (moment : ℤ). since moment new) t
    ∙ (ap (λ (stamps : List Stamp). since time stamps) none.0 ∙ recent_before oldest time held (ap (λ (moment : ℤ). since moment held) (sym o) ∙ none.1) less)

pub returns-clause-same : goal.returns-clause-same
returns-clause-same c =
    let o : to_z w64 (of_z w64 c.args.oldest) ≡ c.args.oldest = omega (arith, ints) in
    let t : to_z w64 (of_z w64 c.args.time) ≡ c.args.time = omega (arith, ints) in
    let later = c.if-oldest-time.false in
    left c.args.oldest c.args.time _ _ c.loop.held c.free_first.new.self o t (omega (arith, ints)) (c.free_first.ensures.none c.loop-test.false)
    ∙ (sym (c.free_first.ensures.none c.loop-test.false).1 ∙ (c.loop.invariant.same ∙ ap (λ (oldest : ℤ). since oldest c.args.held.now) o))

pub returns-then-oldest-time-clause-value : goal.returns-then-oldest-time-clause-value
returns-then-oldest-time-clause-value c =
    let o : to_z w64 (of_z w64 c.args.oldest) ≡ c.args.oldest = omega (arith, ints) in
    let t : to_z w64 (of_z w64 c.args.time) ≡ c.args.time = omega (arith, ints) in
    let early = c.if-oldest-time.true in
    o ∙ stays_early c.args.oldest c.args.time (omega (arith, ints))

pub returns-clause-value : goal.returns-clause-value
returns-clause-value c =
    let t : to_z w64 (of_z w64 c.args.time) ≡ c.args.time = omega (arith, ints) in
    let later = c.if-oldest-time.false in
    t ∙ goes_early c.args.oldest c.args.time (omega (arith, ints))

pub returns-clause-stays : goal.returns-clause-stays
returns-clause-stays c = λ early. let later = c.if-oldest-time.false in absurd (omega (arith, ints))

pub returns-clause-shrinks : goal.returns-clause-shrinks
returns-clause-shrinks c =
    let same : length c.free_first.new.self ≡ length c.loop.held = ap (λ (stamps : List Stamp). length stamps) (c.free_first.ensures.none c.loop-test.false).0 in
    let less = c.loop.invariant.shrinks in
    omega arith

pub returns-then-oldest-time-clause-live : goal.returns-then-oldest-time-clause-live
returns-then-oldest-time-clause-live c = λ late. let early = c.if-oldest-time.true in absurd (omega (arith, ints))

pub returns-clause-live : goal.returns-clause-live
returns-clause-live c = λ _.
    let o : to_z w64 (of_z w64 c.args.oldest) ≡ c.args.oldest = omega (arith, ints) in
    let t : to_z w64 (of_z w64 c.args.time) ≡ c.args.time = omega (arith, ints) in
    let later = c.if-oldest-time.false in
    left c.args.oldest c.args.time _ _ c.loop.held c.free_first.new.self o t (omega (arith, ints)) (c.free_first.ensures.none c.loop-test.false)
    ∙ sym (c.free_first.ensures.none c.loop-test.false).0
