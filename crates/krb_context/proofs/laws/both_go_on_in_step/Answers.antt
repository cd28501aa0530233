use Rattle.krb_context.proofs.Turns.{go_on_in_step}
use Rattle.krb_context.proofs.laws.both_go_on_in_step.Goals as goal

pub returns : goal.returns
returns c = go_on_in_step
