use Rattle.krb_enc.proofs.KeyLaws.{length-sealed}
use Rattle.krb_enc.proofs.laws.sealed_lengths.Goals as goal

pub returns : goal.returns
returns c = length-sealed
