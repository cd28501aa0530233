use Rattle.krb_file.proofs.Exits.{err_is}
use Rattle.krb_msg.specs.Borrowed.{ticket_of}
use Rattle.krb_msg.specs.Module.{ticket}
use Rattle.krb_msg.proofs.SpelledLaws.{parses_itself, parses_nothing}
use Rattle.krb_msg.proofs.spelled.SpelledTicket.parse.Goals as goal

pub returns-in_err-ticket : goal.returns-in_err-ticket
returns-in_err-ticket c =
    rw (err_is c.from_residual.result c.from_residual.ensures.1) (parses_nothing ticket ticket_of c.in_err-ticket.field-0.0 c.args.bytes.now c.in_err-ticket.ensures)

pub returns : goal.returns
returns c = parses_itself ticket ticket_of c.in_ok-ticket.ticket c.args.bytes.now c.in_ok-ticket.ensures
