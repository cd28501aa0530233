use Rattle.std.proofs.Common.{arith}
use Rattle.krb_aes.proofs.InvSteps.{begun, gone_on, ended}
use Rattle.krb_aes.proofs.RoundLaws.{cipher-inv_cipher}
use Rattle.krb_aes.proofs.lanes.decrypt_two_blocks.Goals as goal

pub loop-round-init : goal.loop-round-init
loop-round-init c =
    let key = c.args.schedule.now in
    record {
      one = begun key c.args.one.now _ _ _ c.rounds-last.ensures.key c.inv_first_round-one_form.ensures.block c.rounds-last.ensures.count
          c.round_key-first_key.ensures.value c.inv_first_round-one_form.ensures.form;
      other = begun key c.args.other.now _ _ _ c.rounds-last.ensures.key c.inv_first_round-other_form.ensures.block c.rounds-last.ensures.count
          c.round_key-first_key.ensures.value c.inv_first_round-other_form.ensures.form;
    }

pub loop-round-preserved : goal.loop-round-preserved
loop-round-preserved c =
    let key = c.args.schedule.now in
    record {
      one = gone_on key c.args.one.now _ _ _ c.loop-round.round c.rounds-last.ensures.key (omega arith) c.loop-round.invariant.one
          c.inv_key-key.ensures.value c.inv_round_of_several-next_one.ensures;
      other = gone_on key c.args.other.now _ _ _ c.loop-round.round c.rounds-last.ensures.key (omega arith) c.loop-round.invariant.other
          c.inv_key-key.ensures.value c.inv_round_of_several-next_other.ensures;
    }

pub returns-clause-one : goal.returns-clause-one
returns-clause-one c =
    ended c.args.schedule.now c.args.one.now _ _ _ c.loop-round.round (omega arith) c.loop-round.invariant.one
    c.round_key-last_key.ensures.value c.inv_last_round.ensures

pub returns-clause-other : goal.returns-clause-other
returns-clause-other c =
    ended c.args.schedule.now c.args.other.now _ _ _ c.loop-round.round (omega arith) c.loop-round.invariant.other
    c.round_key-last_key.ensures.value c.inv_last_round-2.ensures

pub returns-clause-one_undone : goal.returns-clause-one_undone
returns-clause-one_undone c =
    rw (returns-clause-one c)
    (cipher-inv_cipher c.args.schedule.now c.args.one.now c.rounds-last.ensures.key c.inv_first_round-one_form.ensures.block)

pub returns-clause-other_undone : goal.returns-clause-other_undone
returns-clause-other_undone c =
    rw (returns-clause-other c)
    (cipher-inv_cipher c.args.schedule.now c.args.other.now c.rounds-last.ensures.key c.inv_first_round-other_form.ensures.block)
