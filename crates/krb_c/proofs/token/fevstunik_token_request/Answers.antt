use Rattle.std.proofs.Common.{inr, refl}
use Rattle.krb_c.proofs.token.fevstunik_token_request.Goals as goal

pub returns-in-Err : goal.returns-in-Err
returns-in-Err c = inr (c.in-Err.ensures.fault, refl)
