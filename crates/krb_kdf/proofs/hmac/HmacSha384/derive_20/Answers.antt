use Rattle.krb_kdf.specs.Hmac.{sha384_hash}
use Rattle.krb_kdf.specs.Kdf.{label, purpose_of}
use Rattle.krb_kdf.proofs.Derived.{kdf-text}
use Rattle.krb_kdf.proofs.hmac.HmacSha384.derive_20.Goals as goal

pub returns : goal.returns
returns c =
    rw (c.first_bytes.ensures, c.code.ensures)
    (kdf-text sha384_hash c.args.self.now (label c.args.usage (purpose_of c.args.purpose)) c.kdf_text.result 192
    (rw c.into.ensures at c.kdf_text.ensures))
