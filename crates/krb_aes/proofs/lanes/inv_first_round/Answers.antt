use Rattle.std.proofs.Common.{ap, map, ◌∙◌}
use Rattle.krb_aes.specs.Inner.Tower.{inv_form}
use Rattle.krb_aes.proofs.Bytes.{block_of_array}
use Rattle.krb_aes.proofs.LaneRounds.{first_key_lanes}
use Rattle.krb_aes.proofs.lanes.inv_first_round.Goals as goal

pub returns-clause-block : goal.returns-clause-block
returns-clause-block c = block_of_array c.args.block.now c.told-block c.fits-block

pub returns-clause-form : goal.returns-clause-form
returns-clause-form c =
    c.inv_formed.ensures ∙ ap (map inv_form) (first_key_lanes c.args.block.now c.args.key.now c.told-block c.requires)
