use Rattle.std.proofs.Common.{inl, inr, refl}
use Rattle.krb_ap.proofs.opening.open_under.Goals as goal

pub returns-in-Err-Short-clause-nothing : goal.returns-in-Err-Short-clause-nothing
returns-in-Err-Short-clause-nothing c = λ named. (rw c.in-Err-Short.field-0-is at c.in-Err-Short.ensures.refused).0 (inl refl)

pub returns-in-Err-Integrity-clause-nothing : goal.returns-in-Err-Integrity-clause-nothing
returns-in-Err-Integrity-clause-nothing c = λ named. (rw c.in-Err-Integrity.field-0-is at c.in-Err-Integrity.ensures.refused).0 (inr refl)
