use Rattle.std.proofs.Common.{rules}
use Rattle.krb_name.proofs.TextLaws.{one_more}
use Rattle.krb_name.proofs.text.plain_len.Goals as goal

pub loop-len-preserved : goal.loop-len-preserved
loop-len-preserved c = search (rules, one_more)
