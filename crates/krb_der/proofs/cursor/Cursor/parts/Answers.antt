use Rattle.krb_der.proofs.PartsLaws.{finds}
use Rattle.krb_der.proofs.cursor.Cursor.parts.Goals as goal

pub returns-clause-found : goal.returns-clause-found
returns-clause-found g c = finds g.P.Placed.parts g.P.Placed.view c.find.result c.args.self c.find.ensures
