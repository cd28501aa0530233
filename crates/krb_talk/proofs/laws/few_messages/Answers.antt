use Rattle.krb_talk.proofs.FewMessages.{fewer, over}
use Rattle.krb_talk.proofs.laws.few_messages.Goals as goal

pub returns-clause-fewer : goal.returns-clause-fewer
returns-clause-fewer c at options old new sent it = fewer at options old new sent it

pub returns-clause-over : goal.returns-clause-over
returns-clause-over c at options old new decision it none = over at options old new decision it none
