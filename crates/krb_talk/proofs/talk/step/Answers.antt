use Rattle.std.proofs.Common.{refl}
use Rattle.krb_talk.specs.Talk.{finishes}
use Rattle.krb_talk.proofs.Talking.{at_stage}
use Rattle.krb_talk.proofs.talk.step.Goals as goal

pub returns-in-Login : goal.returns-in-Login
returns-in-Login g c = at_stage _ _ c.args.options c.args.given c.log_in.result.0 c.log_in.result.1 _ _ c.in-Login.is c.log_in.ensures

pub returns-in-Listed : goal.returns-in-Listed
returns-in-Listed g c = at_stage _ _ c.args.options c.args.given c.check.result.0 c.check.result.1 _ _ c.in-Listed.is c.check.ensures

pub returns-in-Waiting : goal.returns-in-Waiting
returns-in-Waiting g c = finishes c.in-Waiting.pending c.finish.ensures.0 c.in-Waiting.is refl c.finish.ensures.1 c.finish.ensures.2 c.finish.ensures.3
