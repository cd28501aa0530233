use Rattle.krb_ap.proofs.Life.{not_again, once}
use Rattle.krb_ap.proofs.laws.no_stamp_twice_in_a_life.Goals as goal

pub returns-clause-once : goal.returns-clause-once
returns-clause-once c = λ setup history steps lives. once c.facts.ensures setup history steps lives

pub returns-clause-before : goal.returns-clause-before
returns-clause-before c = λ setup history steps stamp lives shown. not_again c.facts.ensures setup history steps stamp lives shown
