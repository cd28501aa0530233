use Rattle.std.proofs.Common.{subst, ℕ, ◌≡◌, ◌-◌, ◌+◌, ◌*◌, ◌≤◌, length, suc, refl, ◌∙◌, arith}
use Rattle.krb_cts.specs.Stealing.{joined}
use Rattle.krb_cts.specs.Inner.Chain.{whole_block, undone_at}
use Rattle.krb_cts.proofs.Unchained.{IsUndone, later_block, two_more, one_more}
use Rattle.krb_cts.proofs.chain.decrypt_blocks.Goals as goal

pub loop-i-init : goal.loop-i-init
unfolding joined whole_block
loop-i-init c = record { undone = refl; key = λ some. absurd (omega arith); last = refl }

pub loop-i-preserved : goal.loop-i-preserved
loop-i-preserved c =
    let key = c.args.schedule.now in
    let old = c.args.text.now in
    let n = 2 * c.loop-i.i in
    let fits : 16 * n + 32 ≤ length old = omega arith in
    let more : suc (suc n) ≡ 2 * (c.loop-i.i + 1) = omega arith in
    record {
      undone = subst (λ (m : ℕ). IsUndone key old m c.decrypt_two-chained.new.text) more
          (c.decrypt_two-chained.ensures.text ∙ two_more key old c.loop-i.text c.loop-i.previous n fits c.loop-i.invariant.undone c.loop-i.invariant.last);
      key = λ some. c.decrypt_two-chained.ensures.key;
      last = subst (λ (m : ℕ). c.decrypt_two-chained.result ≡ whole_block old m) more
          (c.decrypt_two-chained.ensures.last ∙ later_block key old c.loop-i.text n fits c.loop-i.invariant.undone);
    }

pub returns-then-count-eq1-clause-text : goal.returns-then-count-eq1-clause-text
returns-then-count-eq1-clause-text c =
    let key = c.args.schedule.now in
    let old = c.args.text.now in
    let n = 2 * c.loop-i.i in
    let before : c.args.count - 1 ≡ n = omega arith in
    let all : suc n ≡ c.args.count = omega arith in
    let text : c.decrypt_one.new.text ≡ undone_at key c.loop-i.text (16 * n) c.loop-i.previous = (rw before at c.decrypt_one.ensures.text) in
    subst (λ (m : ℕ). IsUndone key old m c.decrypt_one.new.text) all
    (text ∙ one_more key old c.loop-i.text c.loop-i.previous n (omega arith) c.loop-i.invariant.undone c.loop-i.invariant.last)
