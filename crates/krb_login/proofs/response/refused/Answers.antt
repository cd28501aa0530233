use Rattle.krb_login.proofs.response.refused.Goals as goal

pub returns-in-Err-clause-so : goal.returns-in-Err-clause-so
returns-in-Err-clause-so c = c.refused_unread.ensures.so c.in-Err.ensures.memory c.args.now c.args.refusal.now
