use Rattle.krb_aes.specs.declared.tower.TheConstants.{ONCE_IO, ONCE_JO, THRICE_IO, THRICE_JO}
use Rattle.krb_aes.proofs.LaneRules.{read_lanes}
use Rattle.krb_aes.proofs.tower.products.Goals as goal

pub returns-clause-once : goal.returns-clause-once
returns-clause-once c =
    read_lanes ONCE_IO ONCE_JO c.args.form _ _ _ c.inverted_form-values.ensures.io c.inverted_form-values.ensures.jo c.read.ensures

pub returns-clause-tripled : goal.returns-clause-tripled
returns-clause-tripled c =
    read_lanes THRICE_IO THRICE_JO c.args.form _ _ _ c.inverted_form-values.ensures.io c.inverted_form-values.ensures.jo c.read-2.ensures
