use Rattle.std.proofs.Common.{List, ℕ, subst}
use Rattle.krb_context.specs.Context.{State, IsMicRefusal}
use Rattle.krb_talk.specs.States.{Pending}
use Rattle.krb_talk.proofs.pending.Pending.finish.Goals as goal

pub returns-in-Err-show : goal.returns-in-Err-show
returns-in-Err-show c =
    let at = subst (λ (state : State). IsMicRefusal state c.as_slice.result.now c.in-Ok-Some.mic.now c.in-Err-show.fault) c.deref_mut.ensures.value c.in-Err-show.ensures.wrong in
    let list = subst (λ (list : List ℕ). IsMicRefusal c.self.inside.context.value list c.in-Ok-Some.mic.now c.in-Err-show.fault) c.as_slice.ensures.value at in (
      c.in-Ok-Some.mic.now,
      rw c.in-Ok-Some.field-0-is at c.in-Ok-Some.ensures.found,
      subst (λ (p : Pending). IsMicRefusal p.context p.list c.in-Ok-Some.mic.now c.in-Err-show.fault) c.self.view_is list,
    )
