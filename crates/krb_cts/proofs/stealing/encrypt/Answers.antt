use Rattle.std.proofs.Common.{◌≡◌, ◌+◌, ◌*◌, ◌-◌, ◌/◌, length, suc, ℕ, arith, ap, ◌∙◌}
use Rattle.krb_cts.specs.Undo.{undo}
use Rattle.krb_cts.proofs.Ends.{IsLonger, cts-one, cts-longer}
use Rattle.krb_cts.proofs.Undone.{undo-cts}
use Rattle.krb_cts.proofs.stealing.encrypt.Goals as goal

pub returns-then-last_at-eq0-clause-text : goal.returns-then-last_at-eq0-clause-text
returns-then-last_at-eq0-clause-text c =
    let one : length c.args.text.now ≡ 16 = omega arith in
    cts-one c.args.schedule.now c.args.text.now c.encrypt_blocks.new.text one c.encrypt_blocks.ensures.text

pub returns-else-last_at-eq0-clause-text : goal.returns-else-last_at-eq0-clause-text
returns-else-last_at-eq0-clause-text c =
    let old = c.args.text.now in
    let chained = c.encrypt_blocks-previous in
    let j : ℕ = (length old + 15) / 16 - 2 in
    let at : c.last_block-last_at.result ≡ 16 * suc j = omega arith in
    let count : c.last_block-last_at.result / 16 ≡ suc j = omega arith in
    let before : c.last_block-last_at.result - 16 ≡ 16 * j = omega arith in
    let same : length chained.new.text ≡ length old = omega arith in
    let longer : IsLonger old j = record { above = omega arith; within = omega arith } in
    cts-longer c.args.schedule.now old chained.new.text c.steal.new.text j longer
    (rw count at chained.ensures.text)
    (rw (before, chained.ensures.last, count, same, at) at c.steal.ensures)

pub returns-then-last_at-eq0-clause-undone : goal.returns-then-last_at-eq0-clause-undone
returns-then-last_at-eq0-clause-undone c =
    let key = c.args.schedule.now in
    ap (undo key) (returns-then-last_at-eq0-clause-text c)
    ∙ undo-cts key c.args.text.now (c.encrypt_blocks.ensures.key (omega arith)) c.last_block-last_at.ensures.text

pub returns-else-last_at-eq0-clause-undone : goal.returns-else-last_at-eq0-clause-undone
returns-else-last_at-eq0-clause-undone c =
    let key = c.args.schedule.now in
    ap (undo key) (returns-else-last_at-eq0-clause-text c)
    ∙ undo-cts key c.args.text.now (c.encrypt_blocks-previous.ensures.key (omega arith)) c.last_block-last_at.ensures.text
