use Rattle.krb_context.proofs.Tokens.{same_wrap, same_mic}
use Rattle.krb_context.proofs.laws.one_text.Goals as goal

pub returns : goal.returns
returns c = record { wrap = same_wrap; mic = same_mic }
