use Rattle.krb_der.proofs.Messages.{decided}
use Rattle.krb_der.proofs.laws.decided.Goals as goal

pub returns : goal.returns
returns c = decided
