use Rattle.std.proofs.Common.{◌∙◌, ap, replicate, bit_xor}
use Rattle.std.specs.Simd.Lanes.{zip2}
use Rattle.krb_aes.specs.Inner.Tower.{read_from}
use Rattle.krb_aes.specs.declared.tower.TheConstants.{SUB_IO, SUB_JO}
use Rattle.krb_aes.proofs.LaneRules.{read_lanes, with_constant}
use Rattle.krb_aes.proofs.tower.substituted_form.Goals as goal

pub returns : goal.returns
returns c =
    let lanes = read_lanes SUB_IO SUB_JO c.args.form _ _ _ c.inverted_form.ensures.io c.inverted_form.ensures.jo c.read.ensures in
    ap (λ v. zip2 bit_xor v (replicate 16 0x63)) lanes ∙ with_constant (read_from SUB_IO SUB_JO) 0x63 c.args.form c.fits-form.0
