use Rattle.krb_service_command.proofs.task.times_of.Goals as goal

pub returns-in_err-skew-clause-all : goal.returns-in_err-skew-clause-all
returns-in_err-skew-clause-all c = λ span start is asks. let none = c.in_err-skew.ensures.all span is in cc
