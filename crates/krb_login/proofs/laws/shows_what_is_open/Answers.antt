use Rattle.krb_login.proofs.Following.{settled_shows, shows}
use Rattle.krb_login.proofs.laws.shows_what_is_open.Goals as goal

pub returns-clause-decided : goal.returns-clause-decided
returns-clause-decided c = λ call refused. shows call refused

pub returns-clause-settled : goal.returns-clause-settled
returns-clause-settled c = λ call waiting said looked confounder choice refused is. settled_shows call waiting is looked said confounder choice refused
