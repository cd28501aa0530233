use Rattle.std.proofs.Common.{◌<◌, ◌^◌, length, All}
use Rattle.std.specs.Prelude.{◌↔◌}
use Rattle.krb_keytab.proofs.entry.components_fit.Given as goal

-- all fit exactly if what is left does
abbrev pub invariant-loop-component : goal.invariant-loop-component
invariant-loop-component l = All (λ component. length component < 2 ^ 16) l.component-iterator ↔ All (λ component. length component < 2 ^ 16) l.components
