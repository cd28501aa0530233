use Rattle.krb_ap.proofs.Sharing.{forgotten_is_late, forgotten_is_refused, not_again, once}
use Rattle.krb_ap.proofs.laws.a_store_lets_in_once.Goals as goal

pub returns-clause-once : goal.returns-clause-once
returns-clause-once c = λ skew store events share. once c.facts.ensures skew store events share

pub returns-clause-before : goal.returns-clause-before
returns-clause-before c = λ skew store events stamp share had. not_again c.facts.ensures skew store events stamp share had

pub returns-clause-forgotten : goal.returns-clause-forgotten
returns-clause-forgotten c = λ skew store events asked at share forgot agree. forgotten_is_refused skew store events asked at share forgot agree

pub returns-clause-late : goal.returns-clause-late
returns-clause-late c = λ skew store events asked shows at share forgot agree. forgotten_is_late skew store events asked shows at share forgot agree
