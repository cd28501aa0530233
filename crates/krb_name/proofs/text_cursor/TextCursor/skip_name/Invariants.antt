use Rattle.std.proofs.Common.{ℕ, List, length}
use Rattle.krb_name.specs.Inner.Names.{ReadsBytes}
use Rattle.krb_name.proofs.text_cursor.TextCursor.skip_name.Given as goal

abbrev pub invariant-loop-byte : goal.invariant-loop-byte
invariant-loop-byte l = (bytes : List ℕ) × ReadsBytes l.fn.self bytes l.self

abbrev pub decreases-loop-byte : goal.decreases-loop-byte
decreases-loop-byte l = length l.self.rest
