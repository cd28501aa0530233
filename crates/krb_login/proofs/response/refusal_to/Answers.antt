use Rattle.krb_login.proofs.LoginLaws.{errors, rejects}
use Rattle.krb_login.proofs.response.refusal_to.Goals as goal

pub returns-then-asked : goal.returns-then-asked
returns-then-asked c request asks =
    errors c.args.now c.args.carrier request c.args.refusal.now c.args.asked.now c.error_to.result asks c.if-asked.true c.error_to.ensures.sent c.error_to.ensures.long

pub returns-else-asked : goal.returns-else-asked
returns-else-asked c request asks =
    rejects c.args.now c.args.carrier request c.args.refusal.now c.args.asked.now c.rejection.result asks c.if-asked.false c.rejection.ensures.sent c.rejection.ensures.unsent
