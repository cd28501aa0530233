use Rattle.krb_ccache.proofs.RoomLaws.{runs_out}
use Rattle.krb_ccache.proofs.part.behind_each.Goals as goal

pub returns-in_err-rest : goal.returns-in_err-rest
returns-in_err-rest g c =
    rw c.from_residual.ensures (runs_out g.T.Part.spelled c.args.parts.now c.args.left c.loop-part.part-index c.loop-part.rest c.part-item.result c.loop-part-test.true c.part-item.is c.loop-part.invariant c.in_err-rest.ensures)
