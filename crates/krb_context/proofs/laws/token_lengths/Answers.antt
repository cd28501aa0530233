use Rattle.krb_context.proofs.Sides.{length-mic, length-plain, length-sealed_token}
use Rattle.krb_context.proofs.laws.token_lengths.Goals as goal

pub returns : goal.returns
returns c = record { mic = length-mic; plain = length-plain; sealed = length-sealed_token }
