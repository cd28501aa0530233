use Rattle.std.proofs.Common.{◌≡◌, ◌+◌, length}
use Rattle.std.specs.Prelude.{sum_by}
use Rattle.krb_keytab.proofs.entry.Entry.name_size.Given as goal

-- with what is left, the size of the name
abbrev pub invariant-loop-component : goal.invariant-loop-component
invariant-loop-component l =
    l.size + sum_by (λ component. length component + 1) l.component-iterator
    ≡ length l.self.principal.realm + sum_by (λ component. length component + 1) l.self.principal.components
