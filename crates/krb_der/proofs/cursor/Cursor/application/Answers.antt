use Rattle.krb_der.specs.Kind.{wrapped, sequence}
use Rattle.krb_der.proofs.Reading.{reads}
use Rattle.krb_der.proofs.cursor.Cursor.application.Goals as goal

pub returns-clause-reads : goal.returns-clause-reads
returns-clause-reads g c =
    λ clear. reads (wrapped c.args.tag (sequence g.R.Row.fields)) g.R.Row.view c.application_here.result c.args.self.now c.application_here.new.self clear c.application_here.ensures
