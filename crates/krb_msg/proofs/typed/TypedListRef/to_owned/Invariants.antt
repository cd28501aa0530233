use Rattle.std.proofs.Common.{◌≡◌, ◌++◌}
use Rattle.krb_msg.specs.Owned.{owned_list_of}
use Rattle.krb_msg.proofs.typed.TypedListRef.to_owned.Given as goal

abbrev pub invariant-loop-element : goal.invariant-loop-element
invariant-loop-element l = owned_list_of l.made.items ++ l.element-iterator ≡ l.self
