use Rattle.krb_login.proofs.AtTheStore.{lets_in_last, lost, nobody_in, once, right_in, shares_on}
use Rattle.krb_login.proofs.laws.let_in_by_a_store.Goals as goal

pub returns-clause-right : goal.returns-clause-right
returns-clause-right c = λ call waiting said looked login. right_in call waiting said looked login

pub returns-clause-event : goal.returns-clause-event
returns-clause-event c = λ before after call waiting said looked confounder choice login.
    lets_in_last c.accepted_has_its_stamp.ensures.stamp before after call waiting said looked confounder choice login

pub returns-clause-failed : goal.returns-clause-failed
returns-clause-failed c = λ before after call waiting looked stamp. nobody_in before after call waiting looked stamp

pub returns-clause-kept : goal.returns-clause-kept
returns-clause-kept c = λ skew store before after call waiting said looked. shares_on skew store before after call waiting said looked

pub returns-clause-once : goal.returns-clause-once
returns-clause-once c = λ skew store before after call waiting said looked confounder choice login.
    once c.accepted_has_its_stamp.ensures.stamp c.a_store_lets_in_once.ensures.once skew store before after call waiting said looked confounder choice login

pub returns-clause-lost : goal.returns-clause-lost
returns-clause-lost c = λ skew store before call waiting is_new looked. lost skew store before call waiting is_new looked
