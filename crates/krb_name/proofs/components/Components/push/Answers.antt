use Rattle.std.proofs.Common.{◌+◌, ◌++◌, ◌∷◌, [], length, sym, ap, ◌∙◌, arith}
use Rattle.krb_name.proofs.HeldLaws.{counts, pushed, pushed_view}
use Rattle.krb_name.proofs.components.Components.push.Goals as goal

pub overflow_add-self : goal.overflow_add-self
overflow_add-self c =
    omega (arith, counts _ _ _ c.args.component.now c.self.invariant c.in_ok-append.ensures.small c.in_ok-append.ensures.ok, ap length c.as_slice-len.ensures.value)

pub invariant_of-self-2 : goal.invariant_of-self-2
invariant_of-self-2 c = pushed _ _ _ c.args.component.now c.self.invariant c.in_ok-append.ensures.small c.in_ok-append.ensures.ok

pub returns-clause-ok : goal.returns-clause-ok
returns-clause-ok c =
    pushed_view _ _ _ c.args.component.now c.self.invariant c.in_ok-append.ensures.small c.in_ok-append.ensures.ok ∙ ap (λ components. components ++ c.args.component.now ∷ []) c.self.view_is
