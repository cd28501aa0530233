use Rattle.krb_aes.specs.declared.tower.TheConstants.{INV_04_IO, INV_04_JO, INV_01_IO, INV_01_JO}
use Rattle.krb_aes.proofs.LaneRules.{read_lanes}
use Rattle.krb_aes.proofs.tower.inv_by_01_and_04.Goals as goal

pub returns-clause-by_01 : goal.returns-clause-by_01
returns-clause-by_01 c =
    read_lanes INV_01_IO INV_01_JO c.args.form _ _ _ c.inverted_form-values.ensures.io c.inverted_form-values.ensures.jo c.read.ensures

pub returns-clause-by_04 : goal.returns-clause-by_04
returns-clause-by_04 c =
    read_lanes INV_04_IO INV_04_JO c.args.form _ _ _ c.inverted_form-values.ensures.io c.inverted_form-values.ensures.jo c.read-2.ensures
