use Rattle.std.proofs.Common.{◌≡◌, ◌<◌, length, [], ◌∷◌, List, ℕ, sym, ap, subst, ◌∙◌, arith}
use Rattle.krb_name.proofs.HeldLaws.{begins, none_left, read_one, read_none}
use Rattle.krb_name.proofs.components.ComponentsIterIterator.next.Goals as goal

pub returns-then-self-eq0-clause-steps : goal.returns-then-self-eq0-clause-steps
returns-then-self-eq0-clause-steps c =
    let none = sym c.self.view_is ∙ none_left c.self.inside.left c.self.inside.cursor (omega (arith, c.if-self-eq0.true)) in
    (none, none)

pub invariant_of-self : goal.invariant_of-self
invariant_of-self c = read_none c.self.inside.left c.self.inside.cursor (omega (arith, c.if-self-eq0.false)) c.self.invariant c.in_default.ensures.short

pub returns-in_default-clause-steps : goal.returns-in_default-clause-steps
returns-in_default-clause-steps c = read_none c.self.inside.left c.self.inside.cursor (omega (arith, c.if-self-eq0.false)) c.self.invariant c.in_default.ensures.short

pub invariant_of-self-2 : goal.invariant_of-self-2
invariant_of-self-2 c = (read_one c.self.inside.left c.self.inside.cursor _ _ (omega (arith, c.if-self-eq0.false)) c.self.invariant c.in-Ok.ensures.read).0

pub returns-clause-steps : goal.returns-clause-steps
returns-clause-steps c = sym c.self.view_is ∙ (read_one c.self.inside.left c.self.inside.cursor _ _ (omega (arith, c.if-self-eq0.false)) c.self.invariant c.in-Ok.ensures.read).1

pub returns-clause-goes : goal.returns-clause-goes
returns-clause-goes c = record { on = λ finite. (tt, tt, omega (arith, ap length (returns-clause-steps c))); keeps = tt; rests = λ finite. tt }
