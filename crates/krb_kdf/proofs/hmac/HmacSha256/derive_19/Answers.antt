use Rattle.krb_kdf.specs.Hmac.{sha256_hash}
use Rattle.krb_kdf.specs.Kdf.{label}
use Rattle.krb_kdf.proofs.Derived.{kdf-text}
use Rattle.krb_kdf.proofs.hmac.HmacSha256.derive_19.Goals as goal

pub returns : goal.returns
returns c =
    rw (c.first_bytes.ensures, c.code.ensures)
    (kdf-text sha256_hash c.args.self.now (label c.args.usage c.args.purpose) c.kdf_text.result 128 c.kdf_text.ensures)
