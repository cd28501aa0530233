use Rattle.krb_login.proofs.LoginLaws.{some_lacks, none_lacks}
use Rattle.krb_login.proofs.response.refused_unread.Goals.{then-is_due, else-is_due}
use Rattle.krb_login.proofs.response.refused_unread.Goals as goal

pub returns-clause-so : goal.returns-clause-so
returns-clause-so c asks now refusal =
    elim c.if-is_due.branch [
      | then-is_due w ↦ some_lacks now c.args.carrier c.args.request.now refusal c.args.cause c.if-is_due.unsent w.unsent-is asks (c.is_due.ensures.due w.if-is_due.true asks)
      | else-is_due w ↦ none_lacks now c.args.carrier c.args.request.now refusal c.args.cause c.if-is_due.unsent w.unsent-is asks (c.is_due.ensures.none w.if-is_due.false asks)
    ]
