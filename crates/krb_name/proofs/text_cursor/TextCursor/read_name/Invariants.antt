use Rattle.std.proofs.Common.{length}
use Rattle.krb_name.specs.Inner.Names.{ReadsBytes}
use Rattle.krb_name.proofs.text_cursor.TextCursor.read_name.Given as goal

abbrev pub invariant-loop-byte : goal.invariant-loop-byte
invariant-loop-byte l = ReadsBytes l.fn.self l.name l.self

abbrev pub decreases-loop-byte : goal.decreases-loop-byte
decreases-loop-byte l = length l.self.rest
