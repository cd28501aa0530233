use Rattle.krb_ap.proofs.Truth.{err_as, no_value}
use Rattle.krb_ap.proofs.opening.read_authenticator.Goals as goal

pub returns-clause-none : goal.returns-clause-none
returns-clause-none c = err_as _ _ c.parse.result c.map_err.result c.map_err.ensures.cases (no_value _ _ c.parse.result c.parse.ensures.only)
