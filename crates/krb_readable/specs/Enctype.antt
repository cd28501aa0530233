-- The names of encryption types: IANA's registry "Kerberos Encryption Type Numbers" (RFC 3961,
-- sections 8 and 11).
use Rattle.std.specs.Prelude.{ℕ, ℤ, pos, List, [], ◌∷◌, Option, Some, None, codes}
use Rattle.std.specs.Fmt.{signed_decimal}
use Rattle.krb_readable.specs.Named.{name_in, number_called, number_in}

-- the numbers that have a name
abbrev pub registered : List (ℤ × List ℕ)
registered =
    (pos 1, codes "des-cbc-crc")
    ∷ (pos 2, codes "des-cbc-md4")
    ∷ (pos 3, codes "des-cbc-md5")
    ∷ (pos 5, codes "des3-cbc-md5")
    ∷ (pos 7, codes "des3-cbc-sha1")
    ∷ (pos 9, codes "dsaWithSHA1-CmsOID")
    ∷ (pos 10, codes "md5WithRSAEncryption-CmsOID")
    ∷ (pos 11, codes "sha1WithRSAEncryption-CmsOID")
    ∷ (pos 12, codes "rc2CBC-EnvOID")
    ∷ (pos 13, codes "rsaEncryption-EnvOID")
    ∷ (pos 14, codes "rsaES-OAEP-ENV-OID")
    ∷ (pos 15, codes "des-ede3-cbc-Env-OID")
    ∷ (pos 16, codes "des3-cbc-sha1-kd")
    ∷ (pos 17, codes "aes128-cts-hmac-sha1-96")
    ∷ (pos 18, codes "aes256-cts-hmac-sha1-96")
    ∷ (pos 19, codes "aes128-cts-hmac-sha256-128")
    ∷ (pos 20, codes "aes256-cts-hmac-sha384-192")
    ∷ (pos 23, codes "rc4-hmac")
    ∷ (pos 24, codes "rc4-hmac-exp")
    ∷ (pos 25, codes "camellia128-cts-cmac")
    ∷ (pos 26, codes "camellia256-cts-cmac")
    ∷ (pos 65, codes "subkey-keymaterial")
    ∷ []

-- the name of an encryption type, if it has one
unfoldable pub enctype_name : ℤ → Option (List ℕ)
enctype_name etype = name_in registered etype

-- the encryption type that has the name, if there is one
unfoldable pub enctype_number : List ℕ → Option ℤ
enctype_number name = number_in registered name

-- the same; the case of letters is ignored
unfoldable pub enctype_called : List ℕ → Option ℤ
enctype_called name = number_called registered name

abbrev pub name_or_number : ℤ → Option (List ℕ) → List ℕ
name_or_number etype None = signed_decimal etype
name_or_number etype (Some name) = name

-- the name of an encryption type, or its number in decimal if it has none
abbrev pub enctype_text : ℤ → List ℕ
enctype_text etype = name_or_number etype (enctype_name etype)
