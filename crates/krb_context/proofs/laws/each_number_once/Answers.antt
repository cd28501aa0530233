use Rattle.krb_context.proofs.Windows.{in_order, once, one_order}
use Rattle.krb_context.proofs.laws.each_number_once.Goals as goal

pub returns : goal.returns
returns c = record { in_order = in_order; once = once; one = one_order }
