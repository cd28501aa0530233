-- Made from messages.toml by tools/generate/messages.py. Don't edit this file.
use Rattle.std.proofs.Common.{rules}
use Rattle.krb_msg.proofs.authenticator.AuthenticatorRefElement.read.Goals as goal

pub returns-in-Ok : goal.returns-in-Ok
returns-in-Ok c = let read = simp (c.in-Ok.is) at c.application.ensures.computed in rw (c.seq_number_of.ensures) (search (rules, read))
