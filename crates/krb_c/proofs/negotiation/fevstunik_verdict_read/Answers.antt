use Rattle.krb_c.specs.Negotiation.{says}
use Rattle.krb_c.proofs.negotiation.fevstunik_verdict_read.Goals as goal

pub returns-in-Some : goal.returns-in-Some
returns-in-Some c = says c.in-Some.said c.in-Some.ensures c.verdict_numbers.ensures c.plain.ensures
