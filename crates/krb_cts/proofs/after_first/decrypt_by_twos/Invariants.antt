use Rattle.std.proofs.Common.{◌*◌}
use Rattle.krb_cts.proofs.AfterFirst.{IsWritten}
use Rattle.krb_cts.proofs.after_first.decrypt_by_twos.Given as goal

-- twice as many blocks as the index says are written
abbrev pub invariant-loop-i : goal.invariant-loop-i
invariant-loop-i l = IsWritten l.schedule l.text l.fn.plain (2 * l.i) l.plain
