use Rattle.std.proofs.Common.{◌≡◌, ◌+◌, ◌-◌, ◌*◌, ℕ, suc, refl, subst, ◌∙◌, arith}
use Rattle.krb_cts.specs.Stealing.{joined}
use Rattle.krb_cts.specs.Inner.Chain.{unchained_to}
use Rattle.krb_cts.proofs.AfterFirst.{IsWritten, one_written, two_written}
use Rattle.krb_cts.proofs.after_first.decrypt_by_twos.Goals as goal

pub loop-i-init : goal.loop-i-init
unfolding joined
loop-i-init c = refl

pub loop-i-preserved : goal.loop-i-preserved
loop-i-preserved c =
    let key = c.args.schedule.now in
    let text = c.args.text.now in
    let old = c.args.plain.now in
    let n = 2 * c.loop-i.i in
    let more : suc (suc n) ≡ 2 * (c.loop-i.i + 1) = omega arith in
    subst (λ (m : ℕ). IsWritten key text old m c.decrypt_two_after.new.plain) more
    (c.decrypt_two_after.ensures ∙ two_written key text old c.loop-i.plain n (16 * n) refl (omega arith) (omega arith) c.loop-i.invariant)

pub returns-then-count-eq1 : goal.returns-then-count-eq1
returns-then-count-eq1 c =
    let key = c.args.schedule.now in
    let text = c.args.text.now in
    let old = c.args.plain.now in
    let n = 2 * c.loop-i.i in
    let before : c.args.count - 1 ≡ n = omega arith in
    let all : suc n ≡ c.args.count = omega arith in
    let is : c.decrypt_one_after.new.plain ≡ unchained_to key text c.loop-i.plain (16 * n) = (rw before at c.decrypt_one_after.ensures) in
    subst (λ (m : ℕ). IsWritten key text old m c.decrypt_one_after.new.plain) all
    (is ∙ one_written key text old c.loop-i.plain n (16 * n) refl (omega arith) (omega arith) c.loop-i.invariant)
