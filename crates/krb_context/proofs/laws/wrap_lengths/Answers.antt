use Rattle.krb_context.proofs.Sides.{length-wrap_token}
use Rattle.krb_context.proofs.laws.wrap_lengths.Goals as goal

pub returns : goal.returns
returns c = length-wrap_token
