use Rattle.std.proofs.Common.{inr, refl}
use Rattle.krb_explain_keys.proofs.authenticator.bindings_text.Goals as goal

pub returns-in-Err : goal.returns-in-Err
returns-in-Err c = inr (inr (refl, λ content is. c.in-Err.ensures.only content is))
