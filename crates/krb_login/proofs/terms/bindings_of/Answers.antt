use Rattle.std.proofs.Common.{List, ℕ, sym, subst}
use Rattle.krb_gss.specs.Checksum.{IsChecksum}
use Rattle.krb_login.proofs.terms.bindings_of.Goals as goal

pub returns-in-Err : goal.returns-in-Err
returns-in-Err c bindings =
    ((λ h. c.in-Err.ensures.only h.content (subst (λ (b : List ℕ). IsChecksum h.content b) (sym c.deref.ensures.value) h.reads)), (λ x. absurd x))
