use Rattle.krb_gss.proofs.AloneLaws.{alone-in}
use Rattle.krb_gss.proofs.laws.list_decides_nothing.Goals as goal

pub returns : goal.returns
returns c = alone-in
