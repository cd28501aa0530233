use Rattle.std.proofs.Common.{inl, inr, refl}
use Rattle.krb_explain_keys.proofs.opening.opened.Goals as goal

pub returns-in-Err-Short : goal.returns-in-Err-Short
returns-in-Err-Short c = (rw c.in-Err-Short.field-0-is at c.in-Err-Short.ensures.refused).0 (inl refl)

pub returns-in-Err-Integrity : goal.returns-in-Err-Integrity
returns-in-Err-Integrity c = (rw c.in-Err-Integrity.field-0-is at c.in-Err-Integrity.ensures.refused).0 (inr refl)
