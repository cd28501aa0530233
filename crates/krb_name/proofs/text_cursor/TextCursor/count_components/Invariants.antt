use Rattle.std.proofs.Common.{◌≡◌, ℕ, List, length}
use Rattle.krb_name.specs.Inner.Names.{ReadsSome}
use Rattle.krb_name.proofs.text_cursor.TextCursor.count_components.Given as goal

abbrev pub invariant-loop-self : goal.invariant-loop-self
invariant-loop-self l = (components : List (List ℕ)) × ReadsSome l.fn.self components l.self × (l.count ≡ length components)

abbrev pub decreases-loop-self : goal.decreases-loop-self
decreases-loop-self l = length l.self.rest
