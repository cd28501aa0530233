-- The lines of an authenticator that was opened (RFC 4120, section 5.5.1): the client, the time, the checksum's type and what it says of
-- channel bindings (RFC 4121, section 4.1.1), the subkey's type, and the types of authorization data.
use Rattle.std.specs.Prelude.{◌≡◌, ◌≢◌, ◌⊎◌, ℕ, ℤ, ◌-ℤ◌, List, [], ◌∷◌, ◌++◌, Option, Some, None, codes, replicate}
use Rattle.std.specs.Fmt.{decimal, signed_decimal}
use Rattle.krb_der.specs.Kind.{ValueOf}
use Rattle.krb_gss.specs.Checksum.{Content, IsChecksum, checksum_type}
use Rattle.krb_msg.specs.Module.{authenticator, checksum, encryption_key}
use Rattle.krb_msg.specs.Fields.{authenticator_fields, authenticator_client, type_of, bytes_of}
use Rattle.krb_time.specs.Moments.{micros_of}
use Rattle.krb_explain.specs.Date.{IsDateLine}
use Rattle.krb_explain.specs.Parts.{name_line, type_text}
use Rattle.krb_explain_keys.specs.Age.{age_text}
use Rattle.krb_explain_keys.specs.Data.{types_text}

-- the client's time, with its microseconds, and by how much it is before the service's or after it
pub record IsTimeLine (now : ℤ) (seconds : ℤ) (micros : ℕ) (line : List ℕ) : Type 0 where
  pub date : List ℕ
  pub date_is : IsDateLine (codes "authenticator's time: ") seconds date
  pub line_is : line ≡ date ++ (codes " and " ++ (decimal micros ++ (codes " microseconds (" ++ (age_text (micros_of seconds micros -ℤ now) ++ codes ")"))))

-- bytes are a checksum of RFC 4121, and its bindings are so
abbrev pub OfBindings : List ℕ → (List ℕ → Type 0) → Type 0
OfBindings bytes P = (content : Content) × (IsChecksum content bytes × P content.bindings)

-- whether a checksum has channel bindings: sixteen zeros say that there are none
abbrev pub SaysBindings : List ℕ → List ℕ → Type 0
SaysBindings bytes text =
    ((text ≡ codes "none") × OfBindings bytes (λ bindings. bindings ≡ replicate 16 0))
    ⊎ (((text ≡ codes "some") × OfBindings bytes (λ bindings. bindings ≢ replicate 16 0))
    ⊎ ((text ≡ codes "none that can be read") × ((content : Content) → ¬ IsChecksum content bytes)))

pub record AreBindingLines (bytes : List ℕ) (lines : List (List ℕ)) : Type 0 where
  pub text : List ℕ
  pub says : SaysBindings bytes text
  pub lines_are : lines ≡ (codes "channel bindings: " ++ text) ∷ []

-- of a checksum of another type there is nothing to say
pub record MayHaveBindings (type : ℤ) (bytes : List ℕ) (lines : List (List ℕ)) : Type 0 where
  pub of_gss : type ≡ checksum_type → AreBindingLines bytes lines
  pub of_others : type ≢ checksum_type → lines ≡ []

pub record AreTypedLines (type : ℤ) (bytes : List ℕ) (lines : List (List ℕ)) : Type 0 where
  pub bindings : List (List ℕ)
  pub bindings_are : MayHaveBindings type bytes bindings
  pub lines_are : lines ≡ (codes "authenticator's checksum: type " ++ signed_decimal type) ∷ bindings

abbrev pub AreChecksumLines : Option (ValueOf checksum) → List (List ℕ) → Type 0
AreChecksumLines None lines = lines ≡ codes "authenticator's checksum: none" ∷ []
AreChecksumLines (Some value) lines = AreTypedLines (type_of value) (bytes_of value) lines

abbrev pub subkey_text : Option (ValueOf encryption_key) → List ℕ
subkey_text None = codes "none"
subkey_text (Some key) = codes "type " ++ type_text (type_of key)

abbrev pub authenticator_end : ValueOf authenticator → List (List ℕ)
authenticator_end auth =
    (codes "authenticator's subkey: " ++ subkey_text (authenticator_fields auth).subkey)
    ∷ (codes "authenticator's authorization data:" ++ types_text (authenticator_fields auth).authorization)
    ∷ []

pub record AreAuthenticatorLines (now : ℤ) (auth : ValueOf authenticator) (lines : List (List ℕ)) : Type 0 where
  pub time : List ℕ
  pub sums : List (List ℕ)
  pub time_is : IsTimeLine now (authenticator_fields auth).ctime (authenticator_fields auth).cusec time
  pub sums_are : AreChecksumLines (authenticator_fields auth).checksum sums
  pub lines_are : lines ≡ name_line (codes "authenticator's client") (authenticator_client auth) ∷ time ∷ (sums ++ authenticator_end auth)
