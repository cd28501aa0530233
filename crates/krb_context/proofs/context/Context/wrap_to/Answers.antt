use Rattle.std.proofs.Common.{◌∙◌, ap, arith}
use Rattle.std.specs.Result.{result_ok}
use Rattle.krb_context.specs.Wrap.{wrap_token}
use Rattle.krb_context.specs.Inner.Prepared.{state_of}
use Rattle.krb_context.proofs.Sides.{sent}
use Rattle.krb_context.proofs.context.Context.wrap_to.Goals as goal

pub returns : goal.returns
returns c =
    let it = c.self.inside in
    sent (λ state number. wrap_token state.sender c.args.is_sealed state.options.rotation c.args.confounder.now number c.args.text.now)
    (state_of it.keys it.options it.next it.window) c.args.self.now c.counted.new.self c.in_ok-number.number
    c.args.token.now c.wrap_to-written.new.token c.wrap_to-written.result c.counted.result c.self.view_is (c.ok_or.ensures.ok_part ∙ ap result_ok c.in_ok-number.was) c.wrap_to-written.ensures
    c.counted.ensures.written c.counted.ensures.short c.counted.ensures.fits (omega arith)
