use Rattle.std.proofs.Common.{length}
use Rattle.krb_name.specs.Inner.Names.{ReadsSome}
use Rattle.krb_name.proofs.text_cursor.TextCursor.read_components.Given as goal

abbrev pub invariant-loop-components : goal.invariant-loop-components
invariant-loop-components l = ReadsSome l.fn.self l.components l.self

abbrev pub decreases-loop-components : goal.decreases-loop-components
decreases-loop-components l = length l.self.rest
