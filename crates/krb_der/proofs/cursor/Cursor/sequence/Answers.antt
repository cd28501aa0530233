use Rattle.krb_der.specs.Kind.{sequence}
use Rattle.krb_der.proofs.Reading.{reads}
use Rattle.krb_der.proofs.cursor.Cursor.sequence.Goals as goal

pub returns-clause-reads : goal.returns-clause-reads
returns-clause-reads g c =
    λ clear. reads (sequence g.R.Row.fields) g.R.Row.view c.sequence_here.result c.args.self.now c.sequence_here.new.self clear c.sequence_here.ensures
