use Rattle.std.proofs.Common.{inl, inr, refl, subst, w32, ℤ, List, ℕ}
use Rattle.std.proofs.lemmas.Int.{to_z-of_z}
use Rattle.krb_c.specs.Answer.{Hands}
use Rattle.krb_c.specs.Refusal.{Errors, IsErrorFault}
use Rattle.krb_c.proofs.error.fevstunik_error.Goals as goal

pub returns-in-Ok : goal.returns-in-Ok
returns-in-Ok c = inl (
  c.in-Some.refusal,
  (
    c.in-Some.ensures,
    inl (
      c.in-Ok.bytes.items,
      (
        subst (λ (t : ℤ). Errors c.in-Some.refusal c.args.service.now t c.args.now.now c.in-Ok.bytes.items) (to_z-of_z w32 c.args.name_type c.ranges.name_type) c.in-Ok.ensures.error,
        subst (λ (bytes : List ℕ). Hands bytes c.args.buffer.now c.hand_over.new.buffer c.hand_over.result) c.as_slice.ensures.value c.hand_over.ensures,
      ),
    ),
  ),
)

pub returns-in-Err : goal.returns-in-Err
returns-in-Err c = inl (
  c.in-Some.refusal,
  (
    c.in-Some.ensures,
    inr (
      subst (λ (t : ℤ). IsErrorFault c.in-Some.refusal c.args.service.now t c.args.now.now c.in-Err.answer) (to_z-of_z w32 c.args.name_type c.ranges.name_type) c.in-Err.ensures.fault,
      refl,
    ),
  ),
)
