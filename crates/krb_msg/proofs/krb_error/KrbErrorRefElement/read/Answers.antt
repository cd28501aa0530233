-- Made from messages.toml by tools/generate/messages.py. Don't edit this file.
use Rattle.std.proofs.Common.{rules}
use Rattle.std.proofs.lemmas.Iterator.Adapters.{option_map_id}
use Rattle.krb_msg.proofs.krb_error.KrbErrorRefElement.read.Goals as goal

pub returns-in-Ok : goal.returns-in-Ok
returns-in-Ok c = let read = simp (c.in-Ok.is) at c.application.ensures.computed in rw (c.text_bytes.ensures, c.text_bytes-in-Ok.ensures, c.octets_bytes.ensures) (search (rules, option_map_id, read))
