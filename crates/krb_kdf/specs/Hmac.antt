-- HMAC (RFC 2104, section 2) over a hash function. Keys, texts and digests are lists of bytes.
use Rattle.std.specs.Prelude.{ℕ, ◌-◌, List, ◌++◌, length, map, replicate, bit_xor, nat_le, if◌then◌else◌}
use Rattle.std.specs.Borrow.{Bor}
use Rattle.std.specs.List.{flat_map}
use Rattle.sha2.specs.Sha256.{sha256}
use Rattle.sha2.specs.Sha512.{sha384}

-- H: the digest of a text, and B: the length in bytes of the blocks that H processes
pub record Hash : Type 0 where
  pub digest : List ℕ → List ℕ
  pub block_len : ℕ

-- SHA-256 (FIPS 180-4, sections 1 and 6.2)
abbrev pub sha256_hash : Hash
sha256_hash = record { digest = sha256; block_len = 64 }

-- SHA-384 (FIPS 180-4, sections 1 and 6.5)
abbrev pub sha384_hash : Hash
sha384_hash = record { digest = sha384; block_len = 128 }

-- the key, hashed first if it is longer than a block
abbrev pub short_key : Hash → List ℕ → List ℕ
short_key h key = if nat_le (length key) h.block_len then key else h.digest key

-- K: that key, filled with zeros to a block
abbrev pub block_key : Hash → List ℕ → List ℕ
block_key h key = short_key h key ++ replicate (h.block_len - length (short_key h key)) 0

-- K XOR pad, for a pad that repeats one byte over the block
abbrev pub masked : ℕ → List ℕ → List ℕ
masked pad block = map (λ byte. bit_xor byte pad) block

-- H(K XOR opad, H(K XOR ipad, text)), where ipad repeats 0x36 and opad repeats 0x5C, for a K of one
-- block
unfoldable pub hmac_of : Hash → List ℕ → List ℕ → List ℕ
hmac_of h block text = h.digest (masked 0x5c block ++ h.digest (masked 0x36 block ++ text))

-- the same under a key of any length
unfoldable pub hmac : Hash → List ℕ → List ℕ → List ℕ
hmac h key text = hmac_of h (block_key h key) text

-- a text that is passed in parts
abbrev pub joined : List (Bor (List ℕ)) → List ℕ
joined parts = flat_map (λ part. part.now) parts
