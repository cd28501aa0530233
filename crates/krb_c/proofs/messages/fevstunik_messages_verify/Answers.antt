use Rattle.krb_c.specs.Messages.{FindsMic, Verifies}
use Rattle.krb_c.proofs.HeldMessages.{of_both, of_held}
use Rattle.krb_c.proofs.messages.fevstunik_messages_verify.Goals as goal

pub returns-clause-verifies : goal.returns-clause-verifies
returns-clause-verifies c =
    of_both (λ old after. Verifies c.args.text.now c.args.token.now old after c.args.received.now c.verify-answer.new.received c.verify-answer.result) _ _ c.in-Some.context.value _ _ c.in-Some.ensures.taken c.deref_mut.ensures.value c.put.ensures
    c.verify-answer.ensures.takes

pub returns-clause-found : goal.returns-clause-found
returns-clause-found c =
    of_held (λ old. FindsMic c.args.text.now c.args.token.now old c.verify-answer.new.received c.verify-answer.result) _ c.in-Some.context.value _ c.in-Some.ensures.taken c.deref_mut.ensures.value c.verify-answer.ensures.found
