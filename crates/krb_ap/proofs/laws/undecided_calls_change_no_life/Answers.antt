use Rattle.krb_ap.proofs.UndecidedLife.{alike_steps, other_steps}
use Rattle.krb_ap.proofs.laws.undecided_calls_change_no_life.Goals as goal

pub returns-clause-others : goal.returns-clause-others
returns-clause-others c = other_steps

pub returns-clause-alone : goal.returns-clause-alone
returns-clause-alone c = λ setup history steps others lives alone each. alike_steps c.facts.ensures setup history steps lives others alone each
