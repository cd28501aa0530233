use Rattle.std.proofs.Common.{◌∙◌, bit_xor}
use Rattle.std.specs.Simd.Lanes.{zip2, chunk}
use Rattle.krb_aes.proofs.InvRounds.{inv_round_lanes}
use Rattle.krb_aes.proofs.lanes.inv_round.Goals as goal

pub returns : goal.returns
returns c block round_key block_is key_is form_is key_form =
    (λ i. zip2 bit_xor (zip2 bit_xor c.inv_products.result.by_0e (c.turned.ensures i))
    (zip2 bit_xor (zip2 bit_xor (c.turned-2.ensures i) (c.turned-3.ensures i)) (chunk 0 16 c.args.key.now)))
    ∙ inv_round_lanes c.args.shifts c.args.form c.args.key.now _ _ _ _ block round_key c.requires.shifts block_is key_is form_is key_form
    c.inv_products.ensures.by_0e c.inv_products.ensures.by_0b c.inv_products.ensures.by_0d c.inv_products.ensures.by_09
