use Rattle.std.proofs.Common.{◌≡◌, ◌+◌, ◌*◌, ◌/◌, ◌%◌, ◌-◌, ◌++◌, ◌∙◌, List, ℕ, length, take, drop, ap, subst, arith, length-drop}
use Rattle.std.proofs.lemmas.List.{take_all}
use Rattle.krb_cts.specs.Stealing.{joined}
use Rattle.krb_cts.specs.Inner.Chain.{later_block}
use Rattle.krb_cts.proofs.AfterFirst.{IsWritten, all_of_both}
use Rattle.krb_cts.proofs.after_first.decrypt_blocks_after.Goals as goal

pub returns : goal.returns
returns c =
    let key = c.args.schedule.now in
    let text = c.args.text.now in
    let old = c.args.plain.now in
    let front = c.decrypt_by_fours.new.plain in
    let m : ℕ = 4 * (c.args.count / 4) in
    let n : ℕ = c.args.count % 4 in
    let all : m + n ≡ c.args.count = omega arith in
    let whole : take (length text - 16 * m) (drop (16 * m) text) ≡ drop (16 * m) text = take_all (length text - 16 * m) (drop (16 * m) text) (omega (arith, length-drop (16 * m) text)) in
    let rest : IsWritten key (drop (16 * m) text) (drop (16 * m) front) n c.decrypt_by_twos.new.plain =
    (rw whole at c.decrypt_by_twos.ensures) ∙ ap (λ (t : List ℕ). joined (later_block key (drop (16 * m) text)) n ++ drop (16 * n) t) c.split_at_mut-rest.ensures.back in
    ap (λ (t : List ℕ). t ++ c.decrypt_by_twos.new.plain) c.split_at_mut-rest.ensures.front
    ∙ subst (λ (k : ℕ). IsWritten key text old k (take (16 * m) front ++ c.decrypt_by_twos.new.plain)) all
    (all_of_both key text old front c.decrypt_by_twos.new.plain m n (omega arith) c.decrypt_by_fours.ensures rest)
