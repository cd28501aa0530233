use Rattle.std.proofs.Common.{take}
use Rattle.krb_file_commands.specs.Inner.Adding.{IsAddedSoFar}
use Rattle.krb_file_commands.proofs.add.add_in_order.Given as goal

abbrev pub invariant-loop-at : goal.invariant-loop-at
invariant-loop-at l = IsAddedSoFar l.fn.adder l.held (take l.at l.entries) l.adder
