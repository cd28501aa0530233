use Rattle.krb_c.specs.Negotiation.{no_room}
use Rattle.krb_c.proofs.negotiation.verdict_bytes.Goals as goal

pub returns-in-Err-clause-fault : goal.returns-in-Err-clause-fault
returns-in-Err-clause-fault c = no_room c.in-Some.said c.in-Some.ensures c.plain-in-Err.ensures
