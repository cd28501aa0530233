-- Encryption and checksums with the two encryption types of RFC 8009 (sections 3, 5 and 6). Keys,
-- texts and tags are lists of bytes; key usages are numbers.
use Rattle.std.specs.Prelude.{◌≡◌, ◌⊎◌, ℕ, ◌*◌, ℤ, pos, List, ◌++◌, length, take, replicate}
use Rattle.krb_kdf.specs.Hmac.{Hash, sha256_hash, sha384_hash, hmac}
use Rattle.krb_kdf.specs.Kdf.{kdf, label}
use Rattle.krb_kdf.specs.declared.purpose.Purpose.{Purpose}
use Rattle.krb_kdf.specs.declared.purpose.Purpose.TheVariants.{Kc, Ke, Ki}
use Rattle.krb_cts.specs.Stealing.{cts}

-- what distinguishes the two types: the number, the hash function, how many bytes a base key (and
-- Ke) has, and how many a tag (and Kc and Ki) has
pub record Profile : Type 0 where
  pub etype : ℤ
  pub hash : Hash
  pub key_len : ℕ
  pub tag_len : ℕ

-- aes128-cts-hmac-sha256-128
abbrev pub aes128_sha256 : Profile
aes128_sha256 = record { etype = pos 19; hash = sha256_hash; key_len = 16; tag_len = 16 }

-- aes256-cts-hmac-sha384-192
abbrev pub aes256_sha384 : Profile
aes256_sha384 = record { etype = pos 20; hash = sha384_hash; key_len = 32; tag_len = 24 }

-- one of the two
abbrev pub IsProfile : Profile → Type 0
IsProfile p = (p ≡ aes128_sha256) ⊎ (p ≡ aes256_sha384)

-- Ke of a base key and a usage (section 5)
abbrev pub encryption_key : Profile → List ℕ → ℕ → List ℕ
encryption_key p key usage = kdf p.hash key (label usage Ke) (8 * p.key_len)

-- Kc or Ki (section 5)
abbrev pub mac_key : Profile → List ℕ → ℕ → Purpose → List ℕ
mac_key p key usage purpose = kdf p.hash key (label usage purpose) (8 * p.tag_len)

-- the first bytes of an HMAC, as many as a tag has (section 5)
abbrev pub short_mac : Profile → List ℕ → List ℕ → List ℕ
short_mac p key text = take p.tag_len (hmac p.hash key text)

-- the number of bytes is that of a tag of one of the two types (section 7)
abbrev pub IsTag : List ℕ → Type 0
IsTag tag = (length tag ≡ 16) ⊎ (length tag ≡ 24)

-- H: the tag of a ciphertext C, over IV | C, where the IV is 16 zeros (section 5)
unfoldable pub tag_of : Profile → List ℕ → ℕ → List ℕ → List ℕ
tag_of p key usage text = short_mac p (mac_key p key usage Ki) (replicate 16 0 ++ text)

-- C: the confounder and the plain text under Ke, with ciphertext stealing (section 5)
abbrev pub cipher_text : Profile → List ℕ → ℕ → List ℕ → List ℕ → List ℕ
cipher_text p key usage confounder plain = cts (encryption_key p key usage) (confounder ++ plain)

-- C | H (section 5)
abbrev pub sealed : Profile → List ℕ → ℕ → List ℕ → List ℕ → List ℕ
sealed p key usage confounder plain =
    cipher_text p key usage confounder plain ++ tag_of p key usage (cipher_text p key usage confounder plain)

-- the checksum of a text, under Kc (section 6)
unfoldable pub checksum_of : Profile → List ℕ → ℕ → List ℕ → List ℕ
checksum_of p key usage text = short_mac p (mac_key p key usage Kc) text
