use Rattle.krb_c.specs.Messages.{LimitsIn}
use Rattle.krb_c.proofs.HeldMessages.{of_held}
use Rattle.krb_c.proofs.messages.fevstunik_messages_limit.Goals as goal

pub returns-clause-limits : goal.returns-clause-limits
returns-clause-limits c =
    of_held (λ old. LimitsIn c.args.sealed c.args.size old c.limit-answer.result) _ c.in-Some.context.value _ c.in-Some.ensures.taken c.deref.ensures c.limit-answer.ensures
