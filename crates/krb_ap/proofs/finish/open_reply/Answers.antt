use Rattle.std.proofs.Common.{inl, inr, refl}
use Rattle.krb_ap.proofs.finish.open_reply.Goals as goal

pub returns-in-Err-Short-clause-shut : goal.returns-in-Err-Short-clause-shut
returns-in-Err-Short-clause-shut c = λ named. (
  refl,
  λ part o. (rw c.in-Err-Short.field-0-is at c.in-Err-Short.ensures.refused).0 (inl refl) o.opens.plain o.opens.opens,
)

pub returns-in-Err-Integrity-clause-shut : goal.returns-in-Err-Integrity-clause-shut
returns-in-Err-Integrity-clause-shut c = λ named. (
  refl,
  λ part o. (rw c.in-Err-Integrity.field-0-is at c.in-Err-Integrity.ensures.refused).0 (inr refl) o.opens.plain o.opens.opens,
)
