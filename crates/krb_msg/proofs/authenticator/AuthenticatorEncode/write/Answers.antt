-- Made from messages.toml by tools/generate/messages.py. Don't edit this file.
use Rattle.krb_msg.proofs.authenticator.AuthenticatorEncode.write.Goals as goal

pub returns : goal.returns
returns c = simp (c.seq_number_in.ensures, c.as_slice.ensures) at c.write_application.ensures
