use Rattle.krb_ap.proofs.OneRequest.{built_or_prevented, one_fault}
use Rattle.krb_ap.proofs.SomeRequest.{one_request, prevented}
use Rattle.krb_ap.proofs.laws.built_or_prevented.Goals as goal

pub returns-clause-some : goal.returns-clause-some
returns-clause-some c = λ cache service at confounder options none. prevented c.decisions.ensures cache service at confounder options none

pub returns-clause-one : goal.returns-clause-one
returns-clause-one c = λ cache service at confounder options bytes others awaited other p q.
    one_request c.facts.ensures c.writing.ensures cache service at confounder options bytes others awaited other p q

pub returns-clause-apart : goal.returns-clause-apart
returns-clause-apart c = λ cache service at confounder options bytes awaited fault request prevents.
    built_or_prevented cache service at confounder options bytes awaited fault request prevents

pub returns-clause-fault : goal.returns-clause-fault
returns-clause-fault c = λ cache service at confounder options one other p q. one_fault cache service at confounder options one other p q
