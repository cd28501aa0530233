-- Made from messages.toml by tools/generate/messages.py. Don't edit this file.
use Rattle.std.proofs.lemmas.Iterator.Adapters.{option_map_id}
use Rattle.krb_msg.proofs.enc_ticket_part.EncTicketPartEncode.write.Goals as goal

pub returns : goal.returns
returns c = simp (c.as_slice.ensures, option_map_id) at c.write_application.ensures
