use Rattle.krb_msg.proofs.HighNumbers.{high}
use Rattle.krb_msg.proofs.Messages.{one_at_most}
use Rattle.krb_msg.proofs.laws.one_spelling.Goals as goal

pub returns-clause-written : goal.returns-clause-written
returns-clause-written c = λ k m. c.one_spelling.ensures.written k

pub returns-clause-negative : goal.returns-clause-negative
returns-clause-negative c = λ k m. c.one_spelling.ensures.negative k

pub returns-clause-high : goal.returns-clause-high
returns-clause-high c = λ k m v bytes h. high c.one_spelling.ensures.high k m v h.1

pub returns-clause-either : goal.returns-clause-either
returns-clause-either c = λ k m. c.one_spelling.ensures.either k (one_at_most k m)
