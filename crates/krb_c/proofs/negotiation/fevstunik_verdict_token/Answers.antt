use Rattle.std.proofs.Common.{inr, refl}
use Rattle.krb_c.proofs.negotiation.fevstunik_verdict_token.Goals as goal

pub returns-in-Err : goal.returns-in-Err
returns-in-Err c = inr (c.in-Err.ensures.fault, refl)
