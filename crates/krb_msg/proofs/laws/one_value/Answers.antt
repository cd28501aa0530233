use Rattle.krb_msg.proofs.Messages.{clear}
use Rattle.krb_msg.proofs.laws.one_value.Goals as goal

pub returns : goal.returns
returns c = λ k m. c.one_value.ensures k (clear k m)
