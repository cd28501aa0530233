use Rattle.std.proofs.Common.{◌∙◌, arith}
use Rattle.krb_keytab.proofs.RoomLaws.{hole_more}
use Rattle.krb_keytab.proofs.holes.VecHoleGather.hole.Goals as goal

pub returns-clause-has : goal.returns-clause-has
returns-clause-has c = λ start before ignored lies has.
    c.in_ok-push.ensures.items ∙ hole_more before ignored c.args.self.now.items c.args.place.from _ has lies.from (omega (arith, lies.to))
