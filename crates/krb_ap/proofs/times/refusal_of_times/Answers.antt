use Rattle.std.proofs.Common.{refl, inr}
use Rattle.krb_ap.proofs.Truth.{is_so, is_not}
use Rattle.krb_ap.proofs.times.refusal_of_times.Goals as goal
use Rattle.krb_ap.proofs.times.refusal_of_times.Goals.{then-not-is_ignorable-via-then-not-is_ignorable, then-not-is_ignorable-via-else-not-is_ignorable+then-not-is_ignorable-2}

pub returns-then-not-is_ignorable : goal.returns-then-not-is_ignorable
returns-then-not-is_ignorable c = inr (inr (inr (
  refl,
  (
    is_not _ _ c.is_early.ensures c.if-is_early.false,
    (
      is_not _ _ c.is_late.ensures c.if-is_late.false,
      (
        is_so _ _ c.is_path_trusted.ensures c.if-not-is_path_trusted.false,
        elim c.then-not-is_ignorable.branch [
          | then-not-is_ignorable-via-then-not-is_ignorable w ↦ (λ h. is_not _ _ c.is_ignorable.ensures w.if-not-is_ignorable.true h.of_ticket)
          | then-not-is_ignorable-via-else-not-is_ignorable+then-not-is_ignorable-2 w ↦
              (λ h. is_not _ _ w.is_ignorable-else-not-is_ignorable.ensures w.if-not-is_ignorable-2.true h.of_authenticator)
        ],
      ),
    ),
  ),
)))
