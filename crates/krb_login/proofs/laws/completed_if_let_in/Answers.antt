use Rattle.krb_login.proofs.Completed.{only_in, says_so, settled_in_only, settled_says}
use Rattle.krb_login.proofs.laws.completed_if_let_in.Goals as goal

pub returns-clause-only : goal.returns-clause-only
returns-clause-only c = λ call decision bytes. only_in call decision bytes

pub returns-clause-says : goal.returns-clause-says
returns-clause-says c = λ call login bytes. says_so c.verdict_said.ensures call login bytes

pub returns-clause-settled_only : goal.returns-clause-settled_only
returns-clause-settled_only c = λ call waiting said looked confounder choice decision bytes.
    settled_in_only call waiting said looked confounder choice decision bytes

pub returns-clause-settled_says : goal.returns-clause-settled_says
returns-clause-settled_says c = λ waiting said looked confounder choice login bytes.
    settled_says c.verdict_said.ensures waiting said looked confounder choice login bytes
