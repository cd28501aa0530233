use Rattle.std.proofs.Common.{max, ◌-◌, ◌*◌, ◌<◌}
use Rattle.krb_index.specs.Inner.Maxima.{IsPowerOfTwo}
use Rattle.krb_index.proofs.maxima.power_above.Given as goal

abbrev pub invariant-loop-power : goal.invariant-loop-power
invariant-loop-power l = record {
  power : IsPowerOfTwo l.power;
  some : 0 < l.power;
  most : l.power < 2 * max l.count 1;
}

abbrev pub decreases-loop-power : goal.decreases-loop-power
decreases-loop-power l = l.count - l.power
