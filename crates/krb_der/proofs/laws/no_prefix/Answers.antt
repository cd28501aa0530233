use Rattle.krb_der.proofs.Messages.{no_prefix}
use Rattle.krb_der.proofs.laws.no_prefix.Goals as goal

pub returns : goal.returns
returns c = no_prefix
