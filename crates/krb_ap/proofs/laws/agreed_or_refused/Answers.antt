use Rattle.krb_ap.proofs.Finishing.{one_agreement, agreed_or_refused}
use Rattle.krb_ap.proofs.OneReply.{answered, one_cause}
use Rattle.krb_ap.proofs.laws.agreed_or_refused.Goals as goal

pub returns-clause-some : goal.returns-clause-some
returns-clause-some c = λ awaited bytes. answered c.facts.ensures c.decisions.ensures awaited bytes

pub returns-clause-one : goal.returns-clause-one
returns-clause-one c = λ awaited bytes one other. one_agreement c.facts.ensures awaited bytes one other

pub returns-clause-apart : goal.returns-clause-apart
returns-clause-apart c = λ awaited bytes agreement fault. agreed_or_refused c.facts.ensures awaited bytes agreement fault

pub returns-clause-cause : goal.returns-clause-cause
returns-clause-cause c = λ awaited bytes one other. one_cause awaited bytes one other
