use Rattle.krb_ap.proofs.Sharing.{has_its_stamp, has_no_other}
use Rattle.krb_ap.proofs.laws.accepted_has_its_stamp.Goals as goal

pub returns-clause-stamp : goal.returns-clause-stamp
returns-clause-stamp c = has_its_stamp

pub returns-clause-one : goal.returns-clause-one
returns-clause-one c = λ setup history call taken stamp accept has. has_no_other c.facts.ensures setup history call taken stamp accept has
