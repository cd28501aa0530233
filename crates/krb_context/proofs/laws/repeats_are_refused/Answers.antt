use Rattle.krb_context.proofs.Turns.{no_repeat}
use Rattle.krb_context.proofs.laws.repeats_are_refused.Goals as goal

pub returns : goal.returns
returns c = no_repeat
