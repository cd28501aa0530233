use Rattle.std.proofs.Common.{sym, ◌∙◌}
use Rattle.std.proofs.lemmas.Bool.{false≢true}
use Rattle.krb_der.proofs.Lists.{list_fault}
use Rattle.krb_der.proofs.cursor.Cursor.check_each_here.Goals as goal

pub returns-in-Err : goal.returns-in-Err
returns-in-Err g c =
    sym (list_fault g.T.Element.kind c.loop-left.left c.in-Err.fault c.in-Err.ensures.0 (λ e. false≢true (c.loop-left-test.ensures.1 e))) ∙ c.loop-left.invariant
