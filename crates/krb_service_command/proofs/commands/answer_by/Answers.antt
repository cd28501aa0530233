use Rattle.std.proofs.Common.{Err}
use Rattle.krb_file_commands.proofs.FaultLaws.{if_ok_map, same_ok}
use Rattle.krb_service_command.specs.declared.fault.ServiceFault.TheVariants.{Input}
use Rattle.krb_service_command.proofs.FaultLaws.{on_err_map}
use Rattle.krb_service_command.proofs.TaskLaws.{serves}
use Rattle.krb_service_command.proofs.commands.answer_by.Goals as goal

pub returns-clause-answered : goal.returns-clause-answered
returns-clause-answered g c = λ input tells.
    let served = c.in_ok-keytab.ensures.served in
    if_ok_map c.answer_lines.result (λ status all. serves c.args.task.now _ _ served.0 c.in_ok-keytab.keytab _ served.1.0 served.1.1
    c.answer_options_of-options.ensures.form c.answer_options_of-options.ensures.service all)
    (c.answer_lines.ensures.answered input tells)

pub returns-clause-unread : goal.returns-clause-unread
returns-clause-unread g c = λ input tells unread.
    let served = c.in_ok-keytab.ensures.served in
    serves c.args.task.now _ _ served.0 c.in_ok-keytab.keytab _ served.1.0 served.1.1
    c.answer_options_of-options.ensures.form c.answer_options_of-options.ensures.service
    (c.answer_lines.ensures.unread input tells (same_ok c.answer_lines.result (Err Input) unread))

pub returns-clause-begun : goal.returns-clause-begun
returns-clause-begun g c = λ input tells.
    let served = c.in_ok-keytab.ensures.served in
    on_err_map c.answer_lines.result (λ begun. serves c.args.task.now _ _ served.0 c.in_ok-keytab.keytab _ served.1.0 served.1.1
    c.answer_options_of-options.ensures.form c.answer_options_of-options.ensures.service begun)
    (c.answer_lines.ensures.begun input tells)
