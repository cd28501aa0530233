use Rattle.std.proofs.Common.{◌∙◌, ap, arith}
use Rattle.std.specs.Result.{result_ok}
use Rattle.krb_context.specs.Mic.{mic_token}
use Rattle.krb_context.specs.Inner.Prepared.{state_of}
use Rattle.krb_context.proofs.Sides.{sent}
use Rattle.krb_context.proofs.context.Context.mic_to.Goals as goal

pub returns : goal.returns
returns c =
    let it = c.self.inside in
    sent (λ state number. mic_token state.sender number c.args.text.now) (state_of it.keys it.options it.next it.window) c.args.self.now c.counted.new.self c.in_ok-number.number
    c.args.token.now c.mic_to-written.new.token c.mic_to-written.result c.counted.result c.self.view_is (c.ok_or.ensures.ok_part ∙ ap result_ok c.in_ok-number.was) c.mic_to-written.ensures
    c.counted.ensures.written c.counted.ensures.short c.counted.ensures.fits (omega arith)
