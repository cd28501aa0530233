use Rattle.krb_context.proofs.Tokens.{apart}
use Rattle.krb_context.proofs.laws.kinds_are_apart.Goals as goal

pub returns : goal.returns
returns c = apart
