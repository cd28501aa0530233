-- Made from messages.toml by tools/generate/messages.py. Don't edit this file.
use Rattle.std.proofs.lemmas.Iterator.Adapters.{option_map_id}
use Rattle.krb_msg.proofs.krb_error.KrbErrorEncode.write.Goals as goal

pub returns : goal.returns
returns c = simp (c.octets_in.ensures, c.text_in.ensures, c.as_slice.ensures, c.text_in-2.ensures, option_map_id) at c.write_application.ensures
