use Rattle.krb_aes.proofs.InvRounds.{inv_last_round_lanes}
use Rattle.krb_aes.proofs.lanes.inv_last_round.Goals as goal

pub returns : goal.returns
returns c block block_is form_is =
    inv_last_round_lanes c.args.form c.args.key.now _ block block_is c.requires.key form_is c.inv_substituted.ensures
