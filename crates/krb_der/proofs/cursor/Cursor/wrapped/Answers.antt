use Rattle.krb_der.specs.Kind.{wrapped}
use Rattle.krb_der.proofs.Reading.{reads}
use Rattle.krb_der.proofs.cursor.Cursor.wrapped.Goals as goal

pub returns-clause-reads : goal.returns-clause-reads
returns-clause-reads g c =
    reads (wrapped c.args.tag g.T.Element.kind) g.T.Element.view c.wrapped_here.result c.args.self.now c.wrapped_here.new.self c.is_clear.ensures c.wrapped_here.ensures
