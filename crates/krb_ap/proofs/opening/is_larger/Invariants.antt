use Rattle.std.proofs.Common.{◌≡◌, ◌+◌, length}
use Rattle.std.specs.Prelude.{sum_by}
use Rattle.krb_msg.specs.Borrowed.{ticket_of}
use Rattle.krb_msg.specs.Fields.{ticket_service}
use Rattle.krb_keytab.specs.Size.{name_size}
use Rattle.krb_ap.proofs.opening.is_larger.Given as goal

-- what is left of the bound, and what is left of the name
abbrev pub invariant-loop-component : goal.invariant-loop-component
invariant-loop-component l =
    l.most + sum_by (λ component. length component + 1) l.component-iterator ≡ l.left + name_size (ticket_service (ticket_of l.ticket))
