use Rattle.std.proofs.Common.{ap, map, ◌∙◌}
use Rattle.krb_aes.specs.Inner.Tower.{tower_form}
use Rattle.krb_aes.proofs.LaneRounds.{first_key_lanes}
use Rattle.krb_aes.proofs.lanes.first_round.Goals as goal

pub returns : goal.returns
returns c = c.formed.ensures ∙ ap (map tower_form) (first_key_lanes c.args.block.now c.args.key.now c.told-block c.requires)
