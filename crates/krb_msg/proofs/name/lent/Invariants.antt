use Rattle.std.proofs.Common.{◌≡◌, ◌++◌, map}
use Rattle.krb_msg.proofs.name.lent.Given as goal

abbrev pub invariant-loop-component : goal.invariant-loop-component
invariant-loop-component l = map (λ c. c.0.now) l.made.items ++ l.component-iterator ≡ l.components
