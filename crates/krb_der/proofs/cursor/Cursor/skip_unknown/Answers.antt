use Rattle.std.proofs.Common.{sym, ◌∙◌}
use Rattle.std.proofs.lemmas.Bool.{false≢true}
use Rattle.krb_der.proofs.Repeats.{unknown_fault}
use Rattle.krb_der.proofs.cursor.Cursor.skip_unknown.Goals as goal

pub returns-in-Err : goal.returns-in-Err
returns-in-Err c =
    sym (unknown_fault c.args.from c.args.to c.loop-left.left c.in-Err.fault (sym c.unknown.ensures ∙ c.in-Err.is) (λ e. false≢true (c.loop-left-test.ensures.1 e))) ∙ c.loop-left.invariant
