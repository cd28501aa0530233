use Rattle.std.proofs.Common.{ap}
use Rattle.krb_gss.specs.declared.negotiating.Negotiation.{Negotiation}
use Rattle.krb_talk.specs.declared.stage.Stage.TheVariants.{Login}
use Rattle.krb_talk.proofs.Talking.{passed, at_stage}
use Rattle.krb_talk.proofs.talk.log_in.Goals as goal

pub returns-in-Begun : goal.returns-in-Begun
returns-in-Begun g c =
    at_stage _ _ c.args.options c.args.given c.begin.result.0 c.begin.result.1 _ _ (ap (λ (n : Negotiation). Login n) c.in-Begun.is) c.begin.ensures

pub returns-in_default : goal.returns-in_default
returns-in_default g c =
    passed _ _ c.args.options c.args.given c.pass.result.0 c.pass.result.1 c.args.negotiation (λ is listing it. c.in_default.not-Begun is) c.pass.ensures
