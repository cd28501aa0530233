use Rattle.std.proofs.Common.{length, ◌-◌, ◌≤◌, All, take}
use Rattle.krb_name.specs.Inner.Components.{IsPlain}
use Rattle.krb_name.proofs.text.plain_len.Given as goal

abbrev pub invariant-loop-len : goal.invariant-loop-len
invariant-loop-len l = (l.len ≤ length l.bytes) × All IsPlain (take l.len l.bytes)

abbrev pub decreases-loop-len : goal.decreases-loop-len
decreases-loop-len l = length l.bytes - l.len
