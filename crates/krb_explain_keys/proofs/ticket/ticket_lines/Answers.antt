use Rattle.std.proofs.Common.{rules}
use Rattle.krb_explain_keys.proofs.ticket.ticket_lines.Goals as goal

pub returns : goal.returns
returns c = record { times = c.in_ok-ticket_times.field-0.items; times_are = c.in_ok-ticket_times.ensures; lines_are = search rules }
