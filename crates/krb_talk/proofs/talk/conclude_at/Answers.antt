-- conclude_at
use Rattle.krb_talk.proofs.Checks.{concluded_at}
use Rattle.krb_talk.proofs.talk.conclude_at.Goals as goal

pub returns : goal.returns
returns c =
    concluded_at c.take_list-listed.result c.args.stage.now c.take_list-listed.new.stage c.args.bytes.now c.args.chosen.confounder.now c.args.chosen.choice.now
    c.args.chosen.options c.args.after c.args.decided c.prepared_if-made.result c.conclude_by.result c.conclude_by.new.stage
    c.take_list-listed.ensures c.prepared_if-made.ensures c.conclude_by.ensures.listed c.conclude_by.ensures.other
