use Rattle.krb_ap.proofs.OneAnswer.{not_both, one_taken, one_place}
use Rattle.krb_ap.proofs.Answered.{answered}
use Rattle.krb_ap.proofs.laws.one_answer.Goals as goal

pub returns-clause-some : goal.returns-clause-some
returns-clause-some c = λ setup history call. answered c.facts.ensures c.decisions.ensures setup history call

pub returns-clause-apart : goal.returns-clause-apart
returns-clause-apart c = λ setup history call taken cause. not_both c.facts.ensures setup history call taken cause

pub returns-clause-taken : goal.returns-clause-taken
returns-clause-taken c = λ setup history call one other. one_taken c.facts.ensures setup history call one other

pub returns-clause-cause : goal.returns-clause-cause
returns-clause-cause c = λ setup history call one other. one_place c.facts.ensures setup history call one other
