use Rattle.std.proofs.Common.{refl, subst, sym, List, ℕ}
use Rattle.krb_c.specs.Negotiation.{Returns, took, refused, memory, at_stage}
use Rattle.krb_c.proofs.negotiation.fevstunik_negotiation_take.Goals as goal

pub returns-in-Ok-returned : goal.returns-in-Ok-returned
returns-in-Ok-returned c =
    let found = c.in-Ok-returned in
    let returns = subst (λ (bytes : List ℕ). Returns c.in-Ok.taken bytes found.is') (sym c.as_slice.ensures.value) found.ensures in
    at_stage c.in-Some.stage c.in-Some.ensures
    (took c.in-Ok.taken c.take.new.self c.as_slice.result.now c.in-Ok.ensures returns c.hand_taken.ensures.hands c.hand_taken.ensures.fits c.hand_taken.ensures.short)

pub returns-in-Err-returned : goal.returns-in-Err-returned
returns-in-Err-returned c = at_stage c.in-Some.stage c.in-Some.ensures (memory c.plain-in-Err-returned.ensures refl refl refl)

pub returns-in-Err : goal.returns-in-Err
returns-in-Err c =
    at_stage c.in-Some.stage c.in-Some.ensures (refused c.in-Err.fault c.take.new.self c.in-Err.ensures c.token_told.ensures c.numbers_of.ensures refl refl)
