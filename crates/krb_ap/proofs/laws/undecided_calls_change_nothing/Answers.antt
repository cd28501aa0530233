use Rattle.krb_ap.proofs.Undecided.{alike, others}
use Rattle.krb_ap.proofs.laws.undecided_calls_change_nothing.Goals as goal

pub returns-clause-others : goal.returns-clause-others
returns-clause-others c = λ setup history calls answers end run. others setup history calls answers end run

pub returns-clause-alone : goal.returns-clause-alone
returns-clause-alone c = λ setup history calls answers others end other_end run alone decided.
    alike c.facts.ensures setup history calls answers end run others other_end alone decided
