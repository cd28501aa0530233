-- conclude
use Rattle.krb_talk.proofs.Checks.{concluded_by}
use Rattle.krb_talk.proofs.talk.conclude.Goals as goal

pub returns : goal.returns
returns c =
    concluded_by c.args.listed c.args.bytes.now c.args.chosen.confounder.now c.args.chosen.choice.now c.args.chosen.options c.args.decided
    c.prepared-made.result c.lead.result c.lead.new.stage c.prepared-made.ensures c.lead.ensures
