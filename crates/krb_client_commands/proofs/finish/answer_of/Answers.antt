use Rattle.krb_file_commands.proofs.FaultLaws.{if_ok_map, if_err_map}
use Rattle.krb_client_commands.proofs.finish.answer_of.Goals as goal

pub returns-clause-agreed : goal.returns-clause-agreed
returns-clause-agreed c = if_ok_map c.finish.result (λ agreed agrees. record {
  awaited = c.in_ok-pending.pending;
  pending = c.in_ok-pending.ensures.pending;
  agrees = agrees;
}) c.finish.ensures.agreed

pub returns-clause-refused : goal.returns-clause-refused
returns-clause-refused c = if_err_map c.finish.result (λ fault cause kept. record {
  awaited = c.in_ok-pending.pending;
  pending = c.in_ok-pending.ensures.pending;
  cause = cause kept;
}) c.finish.ensures.fault

pub returns-clause-unread_reply : goal.returns-clause-unread_reply
returns-clause-unread_reply c = λ unread. record {
  awaited = c.in_ok-pending.pending;
  pending = c.in_ok-pending.ensures.pending;
  typed = c.finish.ensures.memory unread;
}
