-- The names of error codes and flags.
use Rattle.std.specs.Prelude.{ℕ, ℤ, pos, List, [], ◌∷◌, ◌++◌, Option, codes, if◌then◌else◌}
use Rattle.std.specs.Int.{w32}
use Rattle.std.specs.List.{flat_map}
use Rattle.hex.specs.Hex.{encode_lower}
use Rattle.krb_file.specs.Cursor.{number_bytes}
use Rattle.krb_der.specs.Flags.{has_bit}
use Rattle.krb_explain.specs.Named.{first_name}
use Rattle.krb_readable.specs.Named.{name_in}

-- ---- the error codes of a KRB-ERROR (RFC 4120, section 7.5.9), in the order of their numbers

abbrev pub kdc_codes : List (ℤ × List ℕ)
kdc_codes =
    (pos 0, codes "KDC_ERR_NONE")
    ∷ (pos 1, codes "KDC_ERR_NAME_EXP")
    ∷ (pos 2, codes "KDC_ERR_SERVICE_EXP")
    ∷ (pos 3, codes "KDC_ERR_BAD_PVNO")
    ∷ (pos 4, codes "KDC_ERR_C_OLD_MAST_KVNO")
    ∷ (pos 5, codes "KDC_ERR_S_OLD_MAST_KVNO")
    ∷ (pos 6, codes "KDC_ERR_C_PRINCIPAL_UNKNOWN")
    ∷ (pos 7, codes "KDC_ERR_S_PRINCIPAL_UNKNOWN")
    ∷ (pos 8, codes "KDC_ERR_PRINCIPAL_NOT_UNIQUE")
    ∷ (pos 9, codes "KDC_ERR_NULL_KEY")
    ∷ (pos 10, codes "KDC_ERR_CANNOT_POSTDATE")
    ∷ (pos 11, codes "KDC_ERR_NEVER_VALID")
    ∷ (pos 12, codes "KDC_ERR_POLICY")
    ∷ (pos 13, codes "KDC_ERR_BADOPTION")
    ∷ (pos 14, codes "KDC_ERR_ETYPE_NOSUPP")
    ∷ []

unfoldable pub kdc_name : ℤ → Option (List ℕ)
kdc_name code = name_in kdc_codes code

abbrev pub account_codes : List (ℤ × List ℕ)
account_codes =
    (pos 15, codes "KDC_ERR_SUMTYPE_NOSUPP")
    ∷ (pos 16, codes "KDC_ERR_PADATA_TYPE_NOSUPP")
    ∷ (pos 17, codes "KDC_ERR_TRTYPE_NOSUPP")
    ∷ (pos 18, codes "KDC_ERR_CLIENT_REVOKED")
    ∷ (pos 19, codes "KDC_ERR_SERVICE_REVOKED")
    ∷ (pos 20, codes "KDC_ERR_TGT_REVOKED")
    ∷ (pos 21, codes "KDC_ERR_CLIENT_NOTYET")
    ∷ (pos 22, codes "KDC_ERR_SERVICE_NOTYET")
    ∷ (pos 23, codes "KDC_ERR_KEY_EXPIRED")
    ∷ (pos 24, codes "KDC_ERR_PREAUTH_FAILED")
    ∷ (pos 25, codes "KDC_ERR_PREAUTH_REQUIRED")
    ∷ (pos 26, codes "KDC_ERR_SERVER_NOMATCH")
    ∷ (pos 27, codes "KDC_ERR_MUST_USE_USER2USER")
    ∷ (pos 28, codes "KDC_ERR_PATH_NOT_ACCEPTED")
    ∷ (pos 29, codes "KDC_ERR_SVC_UNAVAILABLE")
    ∷ []

unfoldable pub account_name : ℤ → Option (List ℕ)
account_name code = name_in account_codes code

abbrev pub exchange_codes : List (ℤ × List ℕ)
exchange_codes =
    (pos 31, codes "KRB_AP_ERR_BAD_INTEGRITY")
    ∷ (pos 32, codes "KRB_AP_ERR_TKT_EXPIRED")
    ∷ (pos 33, codes "KRB_AP_ERR_TKT_NYV")
    ∷ (pos 34, codes "KRB_AP_ERR_REPEAT")
    ∷ (pos 35, codes "KRB_AP_ERR_NOT_US")
    ∷ (pos 36, codes "KRB_AP_ERR_BADMATCH")
    ∷ (pos 37, codes "KRB_AP_ERR_SKEW")
    ∷ (pos 38, codes "KRB_AP_ERR_BADADDR")
    ∷ (pos 39, codes "KRB_AP_ERR_BADVERSION")
    ∷ (pos 40, codes "KRB_AP_ERR_MSG_TYPE")
    ∷ (pos 41, codes "KRB_AP_ERR_MODIFIED")
    ∷ (pos 42, codes "KRB_AP_ERR_BADORDER")
    ∷ (pos 44, codes "KRB_AP_ERR_BADKEYVER")
    ∷ (pos 45, codes "KRB_AP_ERR_NOKEY")
    ∷ (pos 46, codes "KRB_AP_ERR_MUT_FAIL")
    ∷ (pos 47, codes "KRB_AP_ERR_BADDIRECTION")
    ∷ (pos 48, codes "KRB_AP_ERR_METHOD")
    ∷ (pos 49, codes "KRB_AP_ERR_BADSEQ")
    ∷ (pos 50, codes "KRB_AP_ERR_INAPP_CKSUM")
    ∷ (pos 51, codes "KRB_AP_PATH_NOT_ACCEPTED")
    ∷ (pos 52, codes "KRB_ERR_RESPONSE_TOO_BIG")
    ∷ []

unfoldable pub exchange_name : ℤ → Option (List ℕ)
exchange_name code = name_in exchange_codes code

abbrev pub later_codes : List (ℤ × List ℕ)
later_codes =
    (pos 60, codes "KRB_ERR_GENERIC")
    ∷ (pos 61, codes "KRB_ERR_FIELD_TOOLONG")
    ∷ (pos 62, codes "KDC_ERROR_CLIENT_NOT_TRUSTED")
    ∷ (pos 63, codes "KDC_ERROR_KDC_NOT_TRUSTED")
    ∷ (pos 64, codes "KDC_ERROR_INVALID_SIG")
    ∷ (pos 65, codes "KDC_ERR_KEY_TOO_WEAK")
    ∷ (pos 66, codes "KDC_ERR_CERTIFICATE_MISMATCH")
    ∷ (pos 67, codes "KRB_AP_ERR_NO_TGT")
    ∷ (pos 68, codes "KDC_ERR_WRONG_REALM")
    ∷ (pos 69, codes "KRB_AP_ERR_USER_TO_USER_REQUIRED")
    ∷ (pos 70, codes "KDC_ERR_CANT_VERIFY_CERTIFICATE")
    ∷ (pos 71, codes "KDC_ERR_INVALID_CERTIFICATE")
    ∷ (pos 72, codes "KDC_ERR_REVOKED_CERTIFICATE")
    ∷ (pos 73, codes "KDC_ERR_REVOCATION_STATUS_UNKNOWN")
    ∷ (pos 74, codes "KDC_ERR_REVOCATION_STATUS_UNAVAILABLE")
    ∷ (pos 75, codes "KDC_ERR_CLIENT_NAME_MISMATCH")
    ∷ (pos 76, codes "KDC_ERR_KDC_NAME_MISMATCH")
    ∷ []

unfoldable pub later_name : ℤ → Option (List ℕ)
later_name code = name_in later_codes code

abbrev pub error_name : ℤ → Option (List ℕ)
error_name code = first_name (first_name (kdc_name code) (account_name code)) (first_name (exchange_name code) (later_name code))

-- ---- flags; bit 0 is the most significant

-- the options of a request (RFC 4120, section 5.5.1)
abbrev pub option_names : List (ℕ × List ℕ)
option_names = (1, codes "use-session-key") ∷ (2, codes "mutual-required") ∷ []

-- a ticket's flags (RFC 4120, section 5.3; of bit 15 RFC 6806, section 11, and of bit 16 RFC 8062, section 3)
abbrev pub flag_names : List (ℕ × List ℕ)
flag_names =
    (1, codes "forwardable")
    ∷ (2, codes "forwarded")
    ∷ (3, codes "proxiable")
    ∷ (4, codes "proxy")
    ∷ (5, codes "may-postdate")
    ∷ (6, codes "postdated")
    ∷ (7, codes "invalid")
    ∷ (8, codes "renewable")
    ∷ (9, codes "initial")
    ∷ (10, codes "pre-authent")
    ∷ (11, codes "hw-authent")
    ∷ (12, codes "transited-policy-checked")
    ∷ (13, codes "ok-as-delegate")
    ∷ (15, codes "enc-pa-rep")
    ∷ (16, codes "anonymous")
    ∷ []

-- a space and the name of a bit that is set, or nothing
abbrev pub name_if_set : ℕ → ℕ × List ℕ → List ℕ
name_if_set flags entry = if has_bit flags entry.0 then 32 ∷ entry.1 else []

-- the names of the bits that are set
abbrev pub names_of : List (ℕ × List ℕ) → ℕ → List ℕ
names_of table flags = flat_map (name_if_set flags) table

-- 32 bits in hexadecimal, and after them the names of those that are set
abbrev pub flags_text : List (ℕ × List ℕ) → ℕ → List ℕ
flags_text table flags = encode_lower (number_bytes w32 flags) ++ names_of table flags
