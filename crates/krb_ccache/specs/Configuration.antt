-- What a cache contains beside its tickets (MIT krb5, "Credential cache file format"): the KDC's
-- clock offset, and configuration entries.
use Rattle.std.specs.Prelude.{◌≡◌, ◌≢◌, ℕ, ℤ, List, ◌∷◌, ◌++◌, All, FitsSigned, codes}
use Rattle.std.specs.Int.{w32}
use Rattle.krb_file.specs.Cursor.{signed_bytes}
use Rattle.krb_ccache.specs.Types.{HeaderField, Credential}

-- two signed numbers of 32 bits
pub record IsOffset (value : List ℕ) (seconds microseconds : ℤ) : Type 0 where
  pub seconds_fit : FitsSigned w32 seconds
  pub microseconds_fit : FitsSigned w32 microseconds
  pub value_is : value ≡ signed_bytes w32 seconds ++ signed_bytes w32 microseconds

-- they are the value of the first field of tag 1
pub record HoldsOffset (header : List HeaderField) (seconds microseconds : ℤ) : Type 0 where
  pub before : List HeaderField
  pub field : HeaderField
  pub after : List HeaderField
  pub header_is : header ≡ before ++ field ∷ after
  pub first : All (λ other. other.tag ≢ 1) before
  pub tag : field.tag ≡ 1
  pub offset : IsOffset field.value seconds microseconds

-- the list begins so
abbrev pub BeginsWith : List (List ℕ) → List ℕ → Type 0
BeginsWith components first = (others : List (List ℕ)) × (components ≡ first ∷ others)

-- the server's realm and its first component are these
pub record IsConfiguration (credential : Credential) : Type 0 where
  pub realm : credential.server.realm ≡ codes "X-CACHECONF:"
  pub components : BeginsWith credential.server.components (codes "krb5_ccache_conf_data")
