use Rattle.krb_ccache.proofs.RoomLaws.{IsLeft}
use Rattle.krb_ccache.proofs.part.behind_each.Given as goal

abbrev pub invariant-loop-part : goal.invariant-loop-part
invariant-loop-part g l = IsLeft g.T.Part.spelled l.parts l.left l.part-index l.rest
