use Rattle.std.proofs.Common.{◌<◌, ◌^◌, ℕ, List, All, length, subst, sym, arith}
use Rattle.std.proofs.lemmas.List.Elements.{All-tail, All-cons}
use Rattle.krb_keytab.proofs.entry.components_fit.Goals as goal

IsShort : List ℕ → Type 0
IsShort component = length component < 2 ^ 16

pub loop-component-preserved : goal.loop-component-preserved
unfolding IsShort
loop-component-preserved c =
    let here : IsShort c.in-Some.component.now = omega (arith, c.if-component-gt-MOST.false) in (
      λ others. c.loop-component.invariant.0 (subst (All IsShort) (sym c.in-Some.ensures.steps) (All-cons IsShort c.in-Some.component.now c.next.new.self here others)),
      λ all. All-tail IsShort c.in-Some.component.now c.next.new.self (subst (All IsShort) c.in-Some.ensures.steps (c.loop-component.invariant.1 all)),
    )
