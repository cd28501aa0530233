use Rattle.krb_der.proofs.Offsets.{fault_within}
use Rattle.krb_der.proofs.laws.within.Goals as goal

pub returns : goal.returns
returns c = fault_within
