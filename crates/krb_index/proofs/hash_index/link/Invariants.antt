use Rattle.std.proofs.Common.{length}
use Rattle.krb_index.specs.Inner.Buckets.{IsLinkedFrom}
use Rattle.krb_index.proofs.hash_index.link.Given as goal

abbrev pub invariant-loop-at : goal.invariant-loop-at
invariant-loop-at l = IsLinkedFrom (length l.fn.firsts) l.hashes l.at l.firsts l.nexts
