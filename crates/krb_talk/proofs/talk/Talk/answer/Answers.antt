use Rattle.krb_talk.proofs.Talking.{of_less, of_talk}
use Rattle.krb_talk.proofs.talk.Talk.answer.Goals as goal

pub returns-clause-talks : goal.returns-clause-talks
returns-clause-talks g c =
    of_talk _ _ c.args.given c.step-decision.result.0 c.step-decision.result.1 c.args.self.now c.self.inside.stage c.self.inside.options c.self.view_is
    c.replace-stage.result c.replace-stage.ensures.value c.step-decision.ensures

pub returns-clause-decided : goal.returns-clause-decided
returns-clause-decided g c history stands =
    of_less _ _ _ c.args.self.now.options c.args.given c.step-decision.result.0 c.args.self.now.stage c.step-decision.result.1
    (λ negotiation after decided serves. (serves.decided history stands, serves.goes_to))
    (of_talk _ _ c.args.given c.step-decision.result.0 c.step-decision.result.1 c.args.self.now c.self.inside.stage c.self.inside.options c.self.view_is
    c.replace-stage.result c.replace-stage.ensures.value c.step-decision.ensures)
