use Rattle.krb_context.proofs.Tokens.{own_mic, own_wrap, no_own_mic, no_own_wrap}
use Rattle.krb_context.proofs.laws.own_tokens_are_refused.Goals as goal

pub returns : goal.returns
returns c = record { mic = own_mic; wrap = own_wrap; no_mic = no_own_mic; no_wrap = no_own_wrap }
