use Rattle.krb_ap.proofs.Truth.{err_as, no_value, ok_as}
use Rattle.krb_ap.proofs.opening.read_ticket.Goals as goal

pub returns-clause-found : goal.returns-clause-found
returns-clause-found c = ok_as _ _ c.parse.result c.map_err.result c.map_err.ensures.cases c.parse.ensures.found

pub returns-clause-none : goal.returns-clause-none
returns-clause-none c = err_as _ _ c.parse.result c.map_err.result c.map_err.ensures.cases (no_value _ _ c.parse.result c.parse.ensures.only)
