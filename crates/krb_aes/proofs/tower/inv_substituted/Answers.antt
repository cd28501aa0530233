use Rattle.krb_aes.specs.declared.tower.TheConstants.{INV_SUB_IO, INV_SUB_JO}
use Rattle.krb_aes.proofs.LaneRules.{read_lanes}
use Rattle.krb_aes.proofs.tower.inv_substituted.Goals as goal

pub returns : goal.returns
returns c =
    read_lanes INV_SUB_IO INV_SUB_JO c.args.form _ _ _ c.inverted_form.ensures.io c.inverted_form.ensures.jo c.read.ensures
