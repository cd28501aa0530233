use Rattle.krb_enc.proofs.KeyLaws.{usable_decided}
use Rattle.krb_enc.proofs.laws.usable_is_decided.Goals as goal

pub returns : goal.returns
returns c = usable_decided
