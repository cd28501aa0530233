use Rattle.krb_msg.proofs.Messages.{clear}
use Rattle.krb_msg.proofs.laws.decided.Goals as goal

pub returns : goal.returns
returns c = λ k m. c.decided.ensures k (clear k m)
