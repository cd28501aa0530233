use Rattle.krb_context.proofs.Written.{mic_is_read, wrap_is_read, as_it_is}
use Rattle.krb_context.proofs.laws.what_is_written_is_read.Goals as goal

pub returns : goal.returns
returns c = record { mic = mic_is_read; wrap = wrap_is_read; as_it_is = as_it_is }
