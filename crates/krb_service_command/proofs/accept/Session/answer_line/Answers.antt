use Rattle.std.proofs.Common.{rules, arith}
use Rattle.krb_file_commands.proofs.FaultLaws.{err_is}
use Rattle.krb_service_command.proofs.GoingLaws.{line_begun, none_begun}
use Rattle.krb_service_command.proofs.accept.Session.answer_line.Goals as goal

pub returns-in_err-outcome-clause-err : goal.returns-in_err-outcome-clause-err
returns-in_err-outcome-clause-err g c = λ history line stands holds.
    rw (err_is c.from_residual.result c.from_residual.ensures.1, c.in_err-outcome.ensures.err) (none_begun stands)

pub returns-in_err-print_answer-clause-err : goal.returns-in_err-print_answer-clause-err
returns-in_err-print_answer-clause-err g c = λ history line stands holds.
    rw (err_is c.from_residual-in_err-print_answer.result c.from_residual-in_err-print_answer.ensures.1)
    (line_begun (c.in_ok-outcome.ensures.ok history line stands holds) c.in_err-print_answer.ensures.err)

pub returns-clause-ok : goal.returns-clause-ok
returns-clause-ok g c = λ history line stands holds. record {
  outcome = c.in_ok-outcome.outcome;
  of_line = c.in_ok-outcome.ensures.ok history line stands holds;
  printed = c.in_ok-print_answer.ensures.ok;
  status_is = search (arith, rules);
}
