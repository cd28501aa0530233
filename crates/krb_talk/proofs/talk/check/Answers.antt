use Rattle.krb_talk.proofs.Talking.{concluded}
use Rattle.krb_talk.proofs.talk.check.Goals as goal

pub returns : goal.returns
returns g c =
    concluded _ _ c.args.options c.args.given c.conclude-decision.result c.conclude-decision.new.stage c.args.listed c.serve-decided.new.negotiation
    c.negotiation-negotiation.result c.serve-decided.result c.choice_again-again.result c.negotiation-negotiation.ensures c.choice_again-again.ensures
    c.serve-decided.ensures c.conclude-decision.ensures
