use Rattle.std.proofs.Common.{[]}
use Rattle.krb_file_commands.proofs.FaultLaws.{if_ok_map}
use Rattle.krb_service_command.proofs.TaskLaws.{all_of_input, input_begun, input_came}
use Rattle.krb_service_command.proofs.commands.answer_lines.Goals as goal

pub returns-clause-answered : goal.returns-clause-answered
returns-clause-answered g c = λ input tells.
    if_ok_map c.accept_lines.result (all_of_input c.acceptor_of-acceptor.ensures.setup)
    (c.accept_lines.ensures.answered input [] tells c.acceptor_of-acceptor.ensures.stands)

pub returns-clause-unread : goal.returns-clause-unread
returns-clause-unread g c = λ input tells.
    input_came c.acceptor_of-acceptor.ensures.setup c.accept_lines.result
    (c.accept_lines.ensures.unread input [] tells c.acceptor_of-acceptor.ensures.stands)

pub returns-clause-begun : goal.returns-clause-begun
returns-clause-begun g c = λ input tells.
    input_begun c.acceptor_of-acceptor.ensures.setup c.accept_lines.result
    (c.accept_lines.ensures.unread input [] tells c.acceptor_of-acceptor.ensures.stands)
    (c.accept_lines.ensures.begun input [] tells c.acceptor_of-acceptor.ensures.stands)
