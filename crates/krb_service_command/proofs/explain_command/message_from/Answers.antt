use Rattle.krb_service_command.proofs.ExplainLaws.{unread_message}
use Rattle.krb_service_command.proofs.explain_command.message_from.Goals as goal

pub returns-clause-fault : goal.returns-clause-fault
returns-clause-fault g c =
    unread_message _ _ _ _ (λ message. message.items) c.in-Err.fault c.complain_of.result c.complain_of.ensures.status c.in-Err.ensures
