use Rattle.krb_msg.proofs.ReplySizes.{without_key, with_key, reply}
use Rattle.krb_msg.proofs.laws.reply_size.Goals as goal

pub returns-clause-without_key : goal.returns-clause-without_key
returns-clause-without_key c = without_key

pub returns-clause-with_key : goal.returns-clause-with_key
returns-clause-with_key c = with_key

pub returns-clause-reply : goal.returns-clause-reply
returns-clause-reply c = reply
