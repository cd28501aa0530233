use Rattle.krb_der.proofs.Messages.{message_read}
use Rattle.krb_der.proofs.laws.message_read.Goals as goal

pub returns : goal.returns
returns c = message_read
