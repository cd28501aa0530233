use Rattle.krb_kdf.specs.Hmac.{sha384_hash}
use Rattle.krb_kdf.specs.Kdf.{label}
use Rattle.krb_kdf.specs.declared.purpose.Purpose.TheVariants.{Ke}
use Rattle.krb_kdf.proofs.Derived.{kdf-text}
use Rattle.krb_kdf.proofs.hmac.HmacSha384.derive_20_ke.Goals as goal

pub returns : goal.returns
returns c =
    rw (c.first_bytes.ensures, c.code.ensures)
    (kdf-text sha384_hash c.args.self.now (label c.args.usage Ke) c.kdf_text.result 256 c.kdf_text.ensures)
