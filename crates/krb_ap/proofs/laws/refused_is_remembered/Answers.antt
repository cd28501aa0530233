use Rattle.krb_ap.proofs.OfOpened.{remembers, adds_nothing}
use Rattle.krb_ap.proofs.laws.refused_is_remembered.Goals as goal

pub returns-clause-remembered : goal.returns-clause-remembered
returns-clause-remembered c = λ setup history call cause first kept. remembers c.facts.ensures setup history call cause kept first

pub returns-clause-nothing : goal.returns-clause-nothing
returns-clause-nothing c = λ setup history call cause first forgotten. adds_nothing c.facts.ensures setup history call cause forgotten first
