use Rattle.krb_login.proofs.LoginLaws.{lacks, says_so}
use Rattle.krb_login.proofs.response.refused_as.Goals as goal

pub returns-in-Ok-clause-so : goal.returns-in-Ok-clause-so
returns-in-Ok-clause-so c request asks =
    says_so c.args.now c.args.carrier request c.args.refusal.now c.args.cause c.args.asked c.in-Ok.answer asks (c.in-Ok.ensures request asks)

pub returns-in-Err-clause-so : goal.returns-in-Err-clause-so
returns-in-Err-clause-so c request asks =
    lacks c.args.now c.args.carrier request c.args.refusal.now c.args.cause c.args.asked c.in-Err.why asks (c.in-Err.ensures request asks)
