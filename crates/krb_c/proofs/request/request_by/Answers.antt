use Rattle.std.proofs.Common.{◌≡◌, subst, sym}
use Rattle.std.specs.Prelude.{Option}
use Rattle.std.specs.Option.{MatchOption}
use Rattle.krb_ccache.specs.Value.{Cache}
use Rattle.krb_c.specs.Answer.{plain}
use Rattle.krb_c.specs.Request.{Sends, ask}
use Rattle.krb_c.specs.Codes.{empty_handle}
use Rattle.krb_c.proofs.request.request_by.Goals as goal

pub returns-clause-sent : goal.returns-clause-sent
returns-clause-sent c = subst (λ (value : Option Cache). MatchOption value
    ((c.send-answer.result ≡ plain empty_handle) × ((c.send-answer.new.pending.value ≡ c.args.pending.now.value) × (c.send-answer.new.buffer ≡ c.args.buffer.now)))
    (λ held. Sends (ask held c.args.given.now.service.now c.args.given.now.at.now c.args.given.now.choice.now c.args.given.now.subkey.now c.args.given.now.context) c.args.given.now.confounder.now c.args.pending.now.value
    c.send-answer.new.pending.value c.args.buffer.now c.send-answer.new.buffer c.send-answer.result))
    (sym c.in-Some.ensures.taken)
    (subst (λ (cache : Cache). Sends (ask cache c.args.given.now.service.now c.args.given.now.at.now c.args.given.now.choice.now c.args.given.now.subkey.now c.args.given.now.context) c.args.given.now.confounder.now c.args.pending.now.value
    c.send-answer.new.pending.value c.args.buffer.now c.send-answer.new.buffer c.send-answer.result)
    c.deref_mut.ensures.value c.send-answer.ensures.sent)
