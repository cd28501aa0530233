use Rattle.std.proofs.Common.{◌≡◌, ◌+◌, ◌*◌, ℕ, suc, refl, subst, ◌∙◌, arith}
use Rattle.krb_cts.specs.Stealing.{joined}
use Rattle.krb_cts.proofs.AfterFirst.{IsWritten, four_written}
use Rattle.krb_cts.proofs.after_first.decrypt_by_fours.Goals as goal

pub loop-i-init : goal.loop-i-init
unfolding joined
loop-i-init c = refl

pub loop-i-preserved : goal.loop-i-preserved
loop-i-preserved c =
    let key = c.args.schedule.now in
    let text = c.args.text.now in
    let old = c.args.plain.now in
    let n = 4 * c.loop-i.i in
    let more : suc (suc (suc (suc n))) ≡ 4 * (c.loop-i.i + 1) = omega arith in
    subst (λ (m : ℕ). IsWritten key text old m c.decrypt_four_after.new.plain) more
    (c.decrypt_four_after.ensures ∙ four_written key text old c.loop-i.plain n (16 * n) refl (omega arith) (omega arith) c.loop-i.invariant)
