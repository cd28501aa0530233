use Rattle.krb_der.proofs.Messages.{one_value}
use Rattle.krb_der.proofs.laws.one_value.Goals as goal

pub returns : goal.returns
returns c = one_value
