use Rattle.std.proofs.Common.{inl, inr, refl, subst, List, ℕ}
use Rattle.krb_c.specs.Answer.{Hands}
use Rattle.krb_c.proofs.request.send.Goals as goal

pub returns-in-Ok-clause-sent : goal.returns-in-Ok-clause-sent
returns-in-Ok-clause-sent c = inl (
  c.in-Ok.bytes.items,
  (
    c.in-Ok.kept.value,
    (
      c.in-Ok.ensures.asks,
      (
        c.put.ensures,
        subst (λ (bytes : List ℕ). Hands bytes c.args.buffer.now c.hand_over.new.buffer c.hand_over.result) c.as_slice.ensures.value c.hand_over.ensures,
      ),
    ),
  ),
)

pub returns-in-Err-clause-sent : goal.returns-in-Err-clause-sent
returns-in-Err-clause-sent c = inr (c.in-Err.ensures.fault, (refl, refl))
