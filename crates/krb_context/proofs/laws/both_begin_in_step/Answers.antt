use Rattle.krb_context.proofs.Turns.{begin_in_step}
use Rattle.krb_context.proofs.laws.both_begin_in_step.Goals as goal

pub returns : goal.returns
returns c = begin_in_step
