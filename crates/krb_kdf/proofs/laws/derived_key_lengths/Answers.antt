use Rattle.krb_kdf.specs.Hmac.{sha256_hash, sha384_hash}
use Rattle.krb_kdf.proofs.Lengths.{length-hmac_sha256, length-hmac_sha384, length-kdf}
use Rattle.krb_kdf.proofs.laws.derived_key_lengths.Goals as goal

pub returns-clause-sha256 : goal.returns-clause-sha256
returns-clause-sha256 c = length-kdf sha256_hash 32 length-hmac_sha256

pub returns-clause-sha384 : goal.returns-clause-sha384
returns-clause-sha384 c = length-kdf sha384_hash 48 length-hmac_sha384
