-- Key derivation (RFC 8009, sections 3 and 5). Keys, labels and texts are lists of bytes; key
-- usages are numbers below 2 ^ 32; k counts bits.
use Rattle.std.specs.Prelude.{ℕ, ◌/◌, List, [], ◌∷◌, ◌++◌, take}
use Rattle.std.specs.Int.{w32, to_be_bytes}
use Rattle.krb_kdf.specs.Hmac.{Hash, hmac, hmac_of}
use Rattle.krb_kdf.specs.declared.purpose.Purpose.{Purpose}
use Rattle.krb_kdf.specs.declared.purpose.Purpose.TheVariants.{Kc, Ke, Ki}
use Rattle.krb_kdf.specs.declared.purpose.MacPurpose.{MacPurpose}
use Rattle.krb_kdf.specs.declared.purpose.MacPurpose.TheVariants.{Kc as MacKc, Ki as MacKi}

-- 0x00000001 | label | 0x00 | k, where k has 4 bytes, high first (section 3)
abbrev pub kdf_text : List ℕ → ℕ → List ℕ
kdf_text label k = to_be_bytes w32 1 ++ label ++ 0 ∷ [] ++ to_be_bytes w32 k

-- KDF-HMAC-SHA2(key, label, k): the first k bits of the HMAC (section 3)
unfoldable pub kdf : Hash → List ℕ → List ℕ → ℕ → List ℕ
kdf h key label k = take (k / 8) (hmac h key (kdf_text label k))

-- the same for a key given as one block of HMAC
unfoldable pub kdf_of : Hash → List ℕ → List ℕ → ℕ → List ℕ
kdf_of h block label k = take (k / 8) (hmac_of h block (kdf_text label k))

-- the constant of a purpose (section 5)
abbrev pub purpose_byte : Purpose → ℕ
purpose_byte Kc = 0x99
purpose_byte Ke = 0xAA
purpose_byte Ki = 0x55

-- usage | constant, where the usage has 4 bytes, high first (section 5)
abbrev pub label : ℕ → Purpose → List ℕ
label usage purpose = to_be_bytes w32 usage ++ purpose_byte purpose ∷ []

-- the purposes except encryption
abbrev pub purpose_of : MacPurpose → Purpose
purpose_of MacKc = Kc
purpose_of MacKi = Ki
