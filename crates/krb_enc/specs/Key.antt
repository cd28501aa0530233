-- Keys of the two encryption types.
use Rattle.std.specs.Prelude.{◌≡◌, ◌⊎◌, ◌==◌, ℕ, ℤ, pos, negsuc, List, ◌++◌, codes, if◌then◌else◌}
use Rattle.std.specs.Fmt.{signed_decimal}
use Rattle.krb_kdf.specs.BaseKey.{IsUsableKey}
use Rattle.krb_enc.specs.Sealed.{Profile, aes128_sha256, aes256_sha384}

-- a number of an encryption type, and bytes
pub record KeyValue : Type 0 where
  pub etype : ℤ
  pub bytes : List ℕ

-- a base key, and the number of one usage
pub record UsageKeyValue : Type 0 where
  pub key : KeyValue
  pub usage : ℕ

-- the number is of one of the two types
abbrev pub IsKnown : ℤ → Type 0
IsKnown etype = (etype ≡ pos 19) ⊎ (etype ≡ pos 20)

-- the key can seal and open
abbrev pub IsUsable : KeyValue → Type 0
IsUsable key = IsUsableKey key.etype key.bytes

-- the profile of a known number
abbrev pub numbered : ℤ → Profile
numbered (pos n) = if n == 20 then aes256_sha384 else aes128_sha256
numbered (negsuc _) = aes128_sha256

abbrev pub profile_of : KeyValue → Profile
profile_of key = numbered key.etype

-- what is shown of a printed key: the number of its type alone
abbrev pub shown : ℤ → List ℕ
shown etype = codes "Key(" ++ (signed_decimal etype ++ codes ")")
