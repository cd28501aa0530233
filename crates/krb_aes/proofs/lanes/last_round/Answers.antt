use Rattle.krb_aes.proofs.FormRounds.{last_round_lanes}
use Rattle.krb_aes.proofs.lanes.last_round.Goals as goal

pub returns : goal.returns
returns c block =
    last_round_lanes c.args.form c.args.key.now _ block c.requires.key c.substituted_form.ensures
