use Rattle.krb_aes.proofs.LaneRounds.{inv_mix_lanes}
use Rattle.krb_aes.proofs.lanes.inv_mix_columns.Goals as goal

pub returns : goal.returns
returns c =
    inv_mix_lanes c.args.state c.times_0e.result c.times_0b.result c.times_0d.result c.times_09.result c.fits-state.0
    c.times_0e.ensures c.times_0b.ensures c.times_0d.ensures c.times_09.ensures
