-- The base keys of the two encryption types (RFC 8009, section 5).
use Rattle.std.specs.Prelude.{◌≡◌, ◌⊎◌, ℕ, ℤ, pos, List, length}

-- The bytes are as many as a base key of this type has, by the type's number (section 7): 16 for
-- aes128-cts-hmac-sha256-128, and 32 for aes256-cts-hmac-sha384-192.
abbrev pub IsUsableKey : ℤ → List ℕ → Type 0
IsUsableKey etype bytes = ((etype ≡ pos 19) × (length bytes ≡ 16)) ⊎ ((etype ≡ pos 20) × (length bytes ≡ 32))
