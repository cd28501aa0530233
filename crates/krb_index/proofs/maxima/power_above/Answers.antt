use Rattle.std.proofs.Common.{suc, arith}
use Rattle.krb_index.proofs.MaximaLaws.{twice}
use Rattle.krb_index.proofs.maxima.power_above.Goals as goal

pub loop-power-preserved : goal.loop-power-preserved
loop-power-preserved c =
    let power = c.loop-power.invariant.power in
    record {
      power = (suc power.0, omega (arith, twice power.0, power.1));
      some = omega arith;
      most = omega arith;
    }
