use Rattle.std.proofs.Common.{◌≡◌}
use Rattle.std.specs.Prelude.{◌↔◌}
use Rattle.krb_msg.proofs.name.NameRef.has_same_components.Given as goal

-- what is left of both is the same exactly if the whole is
abbrev pub invariant-loop-component : goal.invariant-loop-component
invariant-loop-component l = (l.component-iterator ≡ l.others) ↔ (l.self.components ≡ l.other.components)
