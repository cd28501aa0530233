use Rattle.std.proofs.Common.{◌≡◌, ◌+◌, ◌-◌, ◌%◌, ◌∙◌, ap, map, subst, sym, arith}
use Rattle.krb_aes.specs.State.{add_round_key, sub_bytes, shift_rows}
use Rattle.krb_aes.specs.KeyExpansion.{key_expansion, round_key}
use Rattle.krb_aes.specs.Cipher.{IsBlock, rounds, cipher}
use Rattle.krb_aes.specs.Inner.Schedule.{kept}
use Rattle.krb_aes.specs.Inner.Tower.{tower_form}
use Rattle.krb_aes.proofs.Bytes.{block_of_array, round_key_bytes}
use Rattle.krb_aes.proofs.ExpansionRules.{rounds_of_four}
use Rattle.krb_aes.proofs.LaneRounds.{kept_none}
use Rattle.krb_aes.proofs.StateLaws.{IsBlock-add_round_key, IsBlock-mix_columns, IsBlock-shifted}
use Rattle.krb_aes.proofs.RoundLaws.{inv_cipher-cipher}
use Rattle.krb_aes.proofs.RoundRules.{rounds_after}
use Rattle.krb_aes.proofs.lanes.encrypt_block.Goals as goal

pub loop-at-init : goal.loop-at-init
unfolding rounds
loop-at-init c =
    let key = c.args.schedule.now in
    let block = block_of_array c.args.block.now c.told-block c.fits-block in
    let first = IsBlock-add_round_key c.args.block.now _ block (round_key_bytes key 0 c.rounds-last.ensures.key.bytes) in
    record {
      is_block = first;
      form = c.first_round-form.ensures ∙ ap (λ k. map tower_form (add_round_key c.args.block.now k)) c.round_key.ensures.value
          ∙ ap (map tower_form) (sym (kept_none _ first));
    }

pub loop-at-preserved : goal.loop-at-preserved
loop-at-preserved c =
    let key = c.args.schedule.now in
    let k = round_key (key_expansion key) in
    let at = c.loop-at.at in
    let before = rounds k (at - 1) c.args.block.now in
    let bytes = round_key_bytes key at c.rounds-last.ensures.key.bytes in
    let same : at + 1 - 1 ≡ at = omega arith in
    let left : (at + 1 + 3) % 4 ≡ at % 4 = omega arith in
    let shifts : (at + 3) % 4 ≡ (at % 4 + 3) % 4 = omega arith in
    let more = sym (rounds_after k c.args.block.now at (omega arith)) in
    let is = IsBlock-add_round_key _ (k at) (IsBlock-mix_columns _ (IsBlock-shifted before c.loop-at.invariant.is_block)) bytes in
    let next = c.round-next.ensures before (k at) c.loop-at.invariant.is_block bytes
    (c.loop-at.invariant.form ∙ ap (λ n. map tower_form (kept n before)) shifts) c.form_key.ensures.value in
    record { is_block = rw same (subst IsBlock more is); form = rw (same, left) (next ∙ ap (λ s. map tower_form (kept (at % 4) s)) more) }

pub returns-clause-block : goal.returns-clause-block
unfolding cipher
returns-clause-block c =
    let key = c.args.schedule.now in
    let k = round_key (key_expansion key) in
    let last = c.rounds-last.result in
    let end : c.loop-at.at - 1 ≡ last - 1 = omega arith in
    let before = rounds k (c.loop-at.at - 1) c.args.block.now in
    let left : (c.loop-at.at + 3) % 4 ≡ 1 = omega (arith, rounds_of_four key c.rounds-last.ensures.key, c.rounds-last.ensures.count) in
    c.last_round.ensures before c.loop-at.invariant.is_block (c.loop-at.invariant.form ∙ ap (λ n. map tower_form (kept n before)) left)
    ∙ ap (add_round_key (shift_rows (sub_bytes before))) c.round_key-2.ensures.value
    ∙ ap (λ n. add_round_key (shift_rows (sub_bytes (rounds k n c.args.block.now))) (k last)) end
    ∙ ap (λ n. add_round_key (shift_rows (sub_bytes (rounds k (n - 1) c.args.block.now))) (k n)) c.rounds-last.ensures.count

pub returns-clause-undone : goal.returns-clause-undone
returns-clause-undone c =
    let block = block_of_array c.args.block.now c.told-block c.fits-block in
    rw (returns-clause-block c) (inv_cipher-cipher c.args.schedule.now c.args.block.now c.rounds-last.ensures.key block)
