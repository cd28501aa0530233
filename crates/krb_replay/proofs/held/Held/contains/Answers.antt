use Rattle.std.proofs.Common.{◌↔◌, Contains, IsTrue, subst}
use Rattle.krb_replay.specs.Stamp.{Stamp}
use Rattle.krb_replay.proofs.TimesLaws.{found_by}
use Rattle.krb_replay.proofs.held.Held.contains.Goals as goal

pub returns : goal.returns
returns c =
    subst (λ (one : Stamp). IsTrue c.has.result ↔ Contains c.args.self.now one) c.held.ensures
    (found_by c.self.inside.tuples c.args.self.now c.held.result.now c.has.result c.self.view_is c.has.ensures.found c.has.ensures.lacks)
