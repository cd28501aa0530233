use Rattle.std.proofs.Common.{arith}
use Rattle.krb_aes.proofs.InvSteps.{begun, gone_on, ended}
use Rattle.krb_aes.proofs.RoundLaws.{cipher-inv_cipher}
use Rattle.krb_aes.proofs.lanes.decrypt_block.Goals as goal

pub loop-at-init : goal.loop-at-init
loop-at-init c =
    begun c.args.schedule.now c.args.block.now _ _ _ c.rounds-last.ensures.key c.inv_first_round-form.ensures.block c.rounds-last.ensures.count
    c.round_key.ensures.value c.inv_first_round-form.ensures.form

pub loop-at-preserved : goal.loop-at-preserved
loop-at-preserved c =
    gone_on c.args.schedule.now c.args.block.now _ _ _ c.loop-at.at c.rounds-last.ensures.key (omega arith) c.loop-at.invariant
    c.inv_key.ensures.value c.inv_round-next.ensures

pub returns-clause-block : goal.returns-clause-block
returns-clause-block c =
    ended c.args.schedule.now c.args.block.now _ _ _ c.loop-at.at (omega arith) c.loop-at.invariant
    c.round_key-2.ensures.value c.inv_last_round.ensures

pub returns-clause-undone : goal.returns-clause-undone
returns-clause-undone c =
    rw (returns-clause-block c)
    (cipher-inv_cipher c.args.schedule.now c.args.block.now c.rounds-last.ensures.key c.inv_first_round-form.ensures.block)
