use Rattle.std.proofs.Common.{ap, ◌∙◌, bit_xor}
use Rattle.std.specs.Simd.Lanes.{zip2, chunk}
use Rattle.krb_aes.specs.declared.lanes.TheConstants.{NEXT_ROWS}
use Rattle.krb_aes.proofs.LaneRounds.{turned_lanes}
use Rattle.krb_aes.proofs.FormRounds.{round_lanes}
use Rattle.krb_aes.proofs.lanes.round.Goals as goal

pub returns : goal.returns
returns c block round_key block_is key_is form_is key_form =
    let once = zip2 bit_xor c.products.result.0 (chunk 0 16 c.args.key.now) in
    let sum = ap (zip2 bit_xor c.products.result.1) c.turned.ensures in
    (λ i. zip2 bit_xor ((c.turned-2.ensures ∙ ap (turned_lanes NEXT_ROWS c.args.shifts) sum) i) (zip2 bit_xor once (sum i)))
    ∙ round_lanes c.args.shifts c.args.form c.args.key.now _ _ block round_key c.requires.shifts block_is key_is form_is key_form
    c.products.ensures.once c.products.ensures.tripled
