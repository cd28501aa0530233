use Rattle.std.proofs.Common.{inl, inr, refl, sym, subst, w32, ℤ, List, ℕ}
use Rattle.std.proofs.lemmas.Int.{to_z-of_z}
use Rattle.std.specs.Prelude.{Option}
use Rattle.krb_ap.specs.declared.refusal.Refusal.{Refusal}
use Rattle.krb_c.specs.Answer.{Hands}
use Rattle.krb_c.specs.Refusal.{Errors, IsErrorFault, TellsError}
use Rattle.krb_c.proofs.service_state.ServiceState.error.Goals as goal

pub returns-in-Ok : goal.returns-in-Ok
returns-in-Ok c = subst (λ (refusal : Option Refusal). TellsError refusal c.args.service.now c.args.name_type c.args.now.now c.args.buffer.now c.hand_over.new.buffer c.hand_over.result)
    (sym c.in-Some.is) (inl (
      c.in-Ok.bytes.items,
      (
        subst (λ (t : ℤ). Errors c.in-Some.refusal c.args.service.now t c.args.now.now c.in-Ok.bytes.items) (to_z-of_z w32 c.args.name_type c.ranges.name_type) c.in-Ok.ensures.error,
        subst (λ (bytes : List ℕ). Hands bytes c.args.buffer.now c.hand_over.new.buffer c.hand_over.result) c.as_slice.ensures.value c.hand_over.ensures,
      ),
    ))

pub returns-in-Err : goal.returns-in-Err
returns-in-Err c = subst (λ (refusal : Option Refusal). TellsError refusal c.args.service.now c.args.name_type c.args.now.now c.args.buffer.now c.args.buffer.now c.in-Err.answer)
    (sym c.in-Some.is) (inr (
      subst (λ (t : ℤ). IsErrorFault c.in-Some.refusal c.args.service.now t c.args.now.now c.in-Err.answer) (to_z-of_z w32 c.args.name_type c.ranges.name_type) c.in-Err.ensures.fault,
      refl,
    ))
