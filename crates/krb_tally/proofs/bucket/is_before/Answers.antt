use Rattle.std.proofs.Common.{sym, ◌∙◌, ap}
use Rattle.std.specs.Ordering.{is_lt}
use Rattle.krb_tally.proofs.OrderLaws.{less_than, not_less}
use Rattle.krb_tally.proofs.bucket.is_before.Goals as goal

pub returns-clause-before : goal.returns-clause-before
returns-clause-before g c = λ first. less_than (g.T.Ord.cmp c.args.one.now c.args.other.now) (sym (ap is_lt c.cmp.ensures) ∙ (sym c.is_lt.ensures ∙ first))

pub returns-clause-from : goal.returns-clause-from
returns-clause-from g c = λ after. not_less (g.T.Ord.cmp c.args.one.now c.args.other.now) (sym (ap is_lt c.cmp.ensures) ∙ (sym c.is_lt.ensures ∙ after))
