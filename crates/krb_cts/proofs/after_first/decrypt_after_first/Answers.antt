use Rattle.std.proofs.Common.{◌≡◌, ◌+◌, ◌*◌, ◌-◌, ◌/◌, length, ℕ, suc, arith, sym, subst, ◌∙◌}
use Rattle.krb_cts.specs.Stealing.{xor}
use Rattle.krb_cts.specs.Undo.{last_undone, stolen_block}
use Rattle.krb_cts.proofs.Ends.{IsLonger}
use Rattle.krb_cts.proofs.AfterFirst.{IsFront, nothing_after, no_front, front_written, all_written, stolen_is, last_is}
use Rattle.krb_cts.proofs.after_first.decrypt_after_first.Goals as goal
use Rattle.krb_cts.proofs.after_first.decrypt_after_first.Goals.{then-end-gt0, else-end-gt0}

pub returns-then-last_at-eq0 : goal.returns-then-last_at-eq0
returns-then-last_at-eq0 c =
    let one : length c.args.text.now ≡ 16 = omega arith in
    nothing_after c.args.schedule.now c.args.text.now c.args.plain.now one c.requires.plain

pub returns : goal.returns
returns c =
    let key = c.args.schedule.now in
    let text = c.args.text.now in
    let old = c.args.plain.now in
    let j : ℕ = (length text + 15) / 16 - 2 in
    let longer : IsLonger text j = record { above = omega arith; within = omega arith } in
    let at : c.last_block-last_at.result ≡ 16 * suc j = omega arith in
    let end : c.last_block-last_at.result - 16 ≡ 16 * j = omega arith in
    let chained : c.undo_last_two.result.0 ≡ stolen_block key text = stolen_is key text _ j longer (rw (end, at) at c.undo_last_two.ensures.chained) in
    let last : c.undo_last_two.result.1 ≡ xor (last_undone key text) (stolen_block key text) = last_is key text _ j longer (rw (end, at) at c.undo_last_two.ensures.plain) in
    let left : length c.if-end-gt0.plain - 16 * j ≡ length text - 16 * suc j = omega arith in
    let front : IsFront key text old j c.if-end-gt0.plain = elim c.if-end-gt0.branch [
      | then-end-gt0 w ↦
          let n : ℕ = j - 1 in
          let count : 16 * j / 16 - 1 ≡ n = omega arith in
          front_written key text old c.if-end-gt0.plain j n longer (omega arith)
          (w.plain-is ∙ (rw (chained, end, count) at w.decrypt_front.ensures))
      | else-end-gt0 w ↦ subst (IsFront key text old j) (sym w.plain-is) (no_front key text old j (omega arith))
    ] in
    all_written key text old c.if-end-gt0.plain c.put_end.new.plain j longer front (rw (last, end, left) at c.put_end.ensures)
