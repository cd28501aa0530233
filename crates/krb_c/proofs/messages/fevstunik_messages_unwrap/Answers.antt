use Rattle.krb_c.specs.Messages.{Unwraps}
use Rattle.krb_c.proofs.HeldMessages.{of_both}
use Rattle.krb_c.proofs.messages.fevstunik_messages_unwrap.Goals as goal

pub returns-clause-unwraps : goal.returns-clause-unwraps
returns-clause-unwraps c =
    of_both (λ old after. Unwraps c.args.token.now c.unwrap-answer.new.token old after c.args.received.now c.unwrap-answer.new.received c.unwrap-answer.result) _ _ c.in-Some.context.value _ _ c.in-Some.ensures.taken c.deref_mut.ensures.value c.put.ensures
    c.unwrap-answer.ensures.takes
