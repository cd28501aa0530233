use Rattle.std.proofs.Common.{◌≡◌, ◌-◌, ◌∙◌, ◌∷◌, List, ℕ, [], map, ap, sym, arith}
use Rattle.krb_aes.specs.Cipher.{IsBlock, cipher, inv_cipher}
use Rattle.krb_aes.proofs.Bytes.{four_listed}
use Rattle.krb_aes.proofs.InvSteps.{begun, gone_on, ended}
use Rattle.krb_aes.proofs.RoundLaws.{cipher-inv_cipher}
use Rattle.krb_aes.proofs.lanes.decrypt_four_blocks.Goals as goal

pub loop-round-init : goal.loop-round-init
loop-round-init c =
    let key = c.args.schedule.now in
    record {
      first = begun key _ _ _ _ c.rounds-last.ensures.key c.inv_first_round-first.ensures.block c.rounds-last.ensures.count
          c.round_key-first_key.ensures.value c.inv_first_round-first.ensures.form;
      second = begun key _ _ _ _ c.rounds-last.ensures.key c.inv_first_round-second.ensures.block c.rounds-last.ensures.count
          c.round_key-first_key.ensures.value c.inv_first_round-second.ensures.form;
      third = begun key _ _ _ _ c.rounds-last.ensures.key c.inv_first_round-third.ensures.block c.rounds-last.ensures.count
          c.round_key-first_key.ensures.value c.inv_first_round-third.ensures.form;
      fourth = begun key _ _ _ _ c.rounds-last.ensures.key c.inv_first_round-fourth.ensures.block c.rounds-last.ensures.count
          c.round_key-first_key.ensures.value c.inv_first_round-fourth.ensures.form;
    }

pub loop-round-preserved : goal.loop-round-preserved
loop-round-preserved c =
    let key = c.args.schedule.now in
    record {
      first = gone_on key _ _ _ _ c.loop-round.round c.rounds-last.ensures.key (omega arith) c.loop-round.invariant.first
          c.inv_key-key.ensures.value c.inv_round_of_several-next_first.ensures;
      second = gone_on key _ _ _ _ c.loop-round.round c.rounds-last.ensures.key (omega arith) c.loop-round.invariant.second
          c.inv_key-key.ensures.value c.inv_round_of_several-next_second.ensures;
      third = gone_on key _ _ _ _ c.loop-round.round c.rounds-last.ensures.key (omega arith) c.loop-round.invariant.third
          c.inv_key-key.ensures.value c.inv_round_of_several-next_third.ensures;
      fourth = gone_on key _ _ _ _ c.loop-round.round c.rounds-last.ensures.key (omega arith) c.loop-round.invariant.fourth
          c.inv_key-key.ensures.value c.inv_round_of_several-next_fourth.ensures;
    }

pub returns-clause-blocks : goal.returns-clause-blocks
returns-clause-blocks c =
    let key = c.args.schedule.now in
    let at = c.loop-round.round in
    let end : at - 1 ≡ 0 = omega arith in
    let first = ended key _ _ _ _ at end c.loop-round.invariant.first c.round_key-last_key.ensures.value c.inv_last_round.ensures in
    let second = ended key _ _ _ _ at end c.loop-round.invariant.second c.round_key-last_key.ensures.value c.inv_last_round-2.ensures in
    let third = ended key _ _ _ _ at end c.loop-round.invariant.third c.round_key-last_key.ensures.value c.inv_last_round-3.ensures in
    let fourth = ended key _ _ _ _ at end c.loop-round.invariant.fourth c.round_key-last_key.ensures.value c.inv_last_round-4.ensures in
    (λ i. first i ∷ second i ∷ third i ∷ fourth i ∷ []) ∙ ap (map (inv_cipher key)) (four_listed c.args.blocks.now c.told-blocks)

pub returns-clause-undone : goal.returns-clause-undone
returns-clause-undone c =
    let key = c.args.schedule.now in
    let undone : (block : List ℕ) → IsBlock block → cipher key (inv_cipher key block) ≡ block = λ block.
    cipher-inv_cipher key block c.rounds-last.ensures.key in
    ap (map (cipher key)) (returns-clause-blocks c ∙ ap (map (inv_cipher key)) (sym (four_listed c.args.blocks.now c.told-blocks)))
    ∙ (λ i. undone _ c.inv_first_round-first.ensures.block i ∷ undone _ c.inv_first_round-second.ensures.block i
    ∷ undone _ c.inv_first_round-third.ensures.block i ∷ undone _ c.inv_first_round-fourth.ensures.block i ∷ [])
    ∙ four_listed c.args.blocks.now c.told-blocks
