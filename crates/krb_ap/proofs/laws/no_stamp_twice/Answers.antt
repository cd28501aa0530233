use Rattle.krb_ap.proofs.Once.{once, not_again}
use Rattle.krb_ap.proofs.laws.no_stamp_twice.Goals as goal

pub returns-clause-once : goal.returns-clause-once
returns-clause-once c = λ setup history calls answers end run. once c.facts.ensures setup history calls answers end run

pub returns-clause-before : goal.returns-clause-before
returns-clause-before c = λ setup history calls answers end stamp run shown. not_again c.facts.ensures setup history calls answers end stamp run shown
