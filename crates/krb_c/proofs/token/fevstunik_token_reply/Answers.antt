use Rattle.std.proofs.Common.{inl, inr, refl, subst, List, ℕ}
use Rattle.krb_c.specs.Answer.{Hands}
use Rattle.krb_c.proofs.token.fevstunik_token_reply.Goals as goal

pub returns-in-Ok : goal.returns-in-Ok
returns-in-Ok c = inl (
  c.in-Ok.token.items,
  (
    c.in-Ok.ensures.token,
    subst (λ (bytes : List ℕ). Hands bytes c.args.buffer.now c.hand_over.new.buffer c.hand_over.result) c.as_slice.ensures.value c.hand_over.ensures,
  ),
)

pub returns-in-Err : goal.returns-in-Err
returns-in-Err c = inr (c.in-Err.ensures.fault, refl)
