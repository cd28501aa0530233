-- Made from messages.toml by tools/generate/messages.py. Don't edit this file.
use Rattle.std.proofs.Common.{rules}
use Rattle.std.proofs.lemmas.Iterator.Adapters.{option_map_id}
use Rattle.krb_msg.proofs.enc_ticket_part.EncTicketRefElement.read.Goals as goal

pub returns-in-Ok : goal.returns-in-Ok
returns-in-Ok c = let read = simp (c.in-Ok.is) at c.application.ensures.computed in search (rules, option_map_id, read)
