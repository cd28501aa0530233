use Rattle.krb_gss.proofs.NegotiationLaws.{asks}
use Rattle.krb_gss.proofs.negotiating.asked.Goals as goal

pub returns : goal.returns
returns c = asks c.asked_here.result c.args.bytes.now c.asked_here.ensures
