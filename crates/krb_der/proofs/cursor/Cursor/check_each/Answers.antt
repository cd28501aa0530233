use Rattle.krb_der.proofs.Reading.{reads-list}
use Rattle.krb_der.proofs.cursor.Cursor.check_each.Goals as goal

pub returns-clause-checks : goal.returns-clause-checks
returns-clause-checks g c = reads-list g.T.Element.kind c.check_each_here.result c.args.self.now c.is_clear.ensures c.check_each_here.ensures
