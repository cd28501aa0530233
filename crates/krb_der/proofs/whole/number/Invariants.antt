use Rattle.std.proofs.Common.{◌≡◌, take}
use Rattle.krb_der.specs.Whole.{number}
use Rattle.krb_der.proofs.whole.number.Given as goal

abbrev pub invariant-loop-byte : goal.invariant-loop-byte
invariant-loop-byte l = l.number ≡ number (take l.byte-index l.bytes)
