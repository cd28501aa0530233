use Rattle.krb_talk.proofs.Turning.{take_of}
use Rattle.krb_talk.proofs.talk.Talk.take.Goals as goal

pub returns-clause-takes : goal.returns-clause-takes
returns-clause-takes c =
    take_of c.args.bytes.now c.turn_of-turn.result.0 c.turn_of-turn.result.1 c.args.self.now c.self.inside.stage c.self.inside.options c.self.view_is
    c.replace-stage.result c.replace-stage.ensures.value c.turn_of-turn.ensures
