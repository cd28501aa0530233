use Rattle.std.proofs.Common.{Bool, inr, subst}
use Rattle.krb_login.specs.Inner.{Awaits}
use Rattle.krb_login.proofs.LoginLaws.{due_if_awaited, none_due, not_rejected, is_rejected}
use Rattle.krb_login.proofs.response.is_due.Goals as goal

pub returns-then-wants_reply-clause-due : goal.returns-then-wants_reply-clause-due
returns-then-wants_reply-clause-due c = λ _ asks.
    due_if_awaited c.args.carrier c.args.request.now (subst (λ (it : Bool). Awaits c.args.request.now it) c.if-wants_reply.true c.wants_reply.ensures) asks

pub returns-else-wants_reply-clause-due : goal.returns-else-wants_reply-clause-due
returns-else-wants_reply-clause-due c = λ some asks. inr (is_rejected c.args.carrier c.rejected.result c.is_some.result c.rejected.ensures c.is_some.ensures some)

pub returns-else-wants_reply-clause-none : goal.returns-else-wants_reply-clause-none
returns-else-wants_reply-clause-none c = λ none asks.
    none_due c.args.carrier c.args.request.now (subst (λ (it : Bool). Awaits c.args.request.now it) c.if-wants_reply.false c.wants_reply.ensures)
    (not_rejected c.args.carrier c.rejected.result c.is_some.result c.rejected.ensures c.is_some.ensures none) asks
