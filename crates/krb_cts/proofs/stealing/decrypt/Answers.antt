use Rattle.std.proofs.Common.{◌≡◌, ◌+◌, ◌*◌, ◌-◌, ◌/◌, length, suc, ℕ, arith, ap, ◌∙◌}
use Rattle.krb_cts.specs.Stealing.{cts}
use Rattle.krb_cts.proofs.Ends.{IsLonger}
use Rattle.krb_cts.proofs.GivenBack.{undo-one, undo-longer, given_back}
use Rattle.krb_cts.proofs.Redone.{cts-undo}
use Rattle.krb_cts.proofs.stealing.decrypt.Goals as goal

pub returns-then-last_at-eq0-clause-text : goal.returns-then-last_at-eq0-clause-text
returns-then-last_at-eq0-clause-text c =
    let one : length c.args.text.now ≡ 16 = omega arith in
    undo-one c.args.schedule.now c.args.text.now c.decrypt_blocks.new.text one c.decrypt_blocks.ensures.text

pub returns-else-last_at-eq0-clause-text : goal.returns-else-last_at-eq0-clause-text
returns-else-last_at-eq0-clause-text c =
    let old = c.args.text.now in
    let j : ℕ = (length old + 15) / 16 - 2 in
    let at : c.last_block-last_at.result ≡ 16 * suc j = omega arith in
    let count : c.last_block-last_at.result / 16 ≡ suc j = omega arith in
    let before : c.last_block-last_at.result - 16 ≡ 16 * j = omega arith in
    let longer : IsLonger old j = record { above = omega arith; within = omega arith } in
    undo-longer c.args.schedule.now old c.give_back.new.text c.decrypt_blocks-else-last_at-eq0.new.text j longer
    (given_back c.args.schedule.now old c.give_back.new.text j longer (rw (before, at) at c.give_back.ensures))
    (rw count at c.decrypt_blocks-else-last_at-eq0.ensures.text)

pub returns-then-last_at-eq0-clause-undone : goal.returns-then-last_at-eq0-clause-undone
returns-then-last_at-eq0-clause-undone c =
    let key = c.args.schedule.now in
    ap (cts key) (returns-then-last_at-eq0-clause-text c)
    ∙ cts-undo key c.args.text.now (c.decrypt_blocks.ensures.key (omega arith)) c.last_block-last_at.ensures.text

pub returns-else-last_at-eq0-clause-undone : goal.returns-else-last_at-eq0-clause-undone
returns-else-last_at-eq0-clause-undone c =
    let key = c.args.schedule.now in
    ap (cts key) (returns-else-last_at-eq0-clause-text c)
    ∙ cts-undo key c.args.text.now (c.decrypt_blocks-else-last_at-eq0.ensures.key (omega arith)) c.last_block-last_at.ensures.text
