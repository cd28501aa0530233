use Rattle.krb_msg.proofs.Messages.{clear, same_kind}
use Rattle.krb_msg.proofs.laws.no_prefix.Goals as goal

pub returns-clause-spelling : goal.returns-clause-spelling
returns-clause-spelling c = λ k m. c.no_prefix.ensures k (clear k m)

pub returns-clause-kind : goal.returns-clause-kind
returns-clause-kind c = same_kind
