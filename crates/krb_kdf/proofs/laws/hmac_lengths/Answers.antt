use Rattle.krb_kdf.proofs.Lengths.{length-hmac_sha256, length-hmac_sha384}
use Rattle.krb_kdf.proofs.laws.hmac_lengths.Goals as goal

pub returns-clause-sha256 : goal.returns-clause-sha256
returns-clause-sha256 c = length-hmac_sha256

pub returns-clause-sha384 : goal.returns-clause-sha384
returns-clause-sha384 c = length-hmac_sha384
