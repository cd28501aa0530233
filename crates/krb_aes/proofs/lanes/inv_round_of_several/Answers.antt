use Rattle.std.proofs.Common.{◌%◌, ◌∙◌, ap, map, bit_xor}
use Rattle.std.specs.Simd.Lanes.{zip2, chunk}
use Rattle.krb_aes.specs.Inner.Tower.{by_nibbles}
use Rattle.krb_aes.specs.declared.tower.TheConstants.{INV_THRICE_LOW, INV_THRICE_HIGH}
use Rattle.krb_aes.specs.declared.lanes.TheConstants.{NEXT_ROWS, OPPOSITE_ROWS}
use Rattle.krb_aes.proofs.LaneRounds.{turned_lanes}
use Rattle.krb_aes.proofs.SeveralRounds.{several_lanes}
use Rattle.krb_aes.proofs.lanes.inv_round_of_several.Goals as goal

pub returns : goal.returns
returns c block round_key block_is key_is form_is key_form =
    let shifts = c.args.shifts in
    let products = c.inv_by_01_and_04.result in
    let mixed = ap (zip2 bit_xor (zip2 bit_xor products.0 products.1)) c.turned.ensures in
    let thrice = c.inv_thrice.ensures ∙ ap (map (by_nibbles INV_THRICE_LOW INV_THRICE_HIGH)) mixed in
    let sum =
    ap (zip2 bit_xor c.inv_thrice.result) (c.turned-2.ensures ∙ ap (turned_lanes OPPOSITE_ROWS (shifts % 2)) mixed) in
    (λ i. zip2 bit_xor ((c.turned-3.ensures ∙ ap (turned_lanes NEXT_ROWS shifts) sum) i)
    (zip2 bit_xor (zip2 bit_xor (mixed i) (chunk 0 16 c.args.key.now)) (sum i)))
    ∙ several_lanes shifts c.args.form c.args.key.now products.0 products.1 c.inv_thrice.result block round_key c.requires.shifts
    block_is key_is form_is key_form c.inv_by_01_and_04.ensures.by_01 c.inv_by_01_and_04.ensures.by_04 thrice
