-- The credential cache file, of versions 0x0503 and 0x0504 (MIT krb5, "Credential cache file
-- format"): which bytes are which cache, and what is wrong with other bytes.
use Rattle.std.specs.Prelude.{◌≡◌, ◌≢◌, ◌⊎◌, ℕ, ◌<◌, ◌≤◌, ◌+◌, List, [], ◌∷◌, ◌++◌, length, map, All, Result, Ok, Err}
use Rattle.std.specs.List.{flat_map}
use Rattle.krb_ccache.specs.Types.{Principal, HeaderField, Credential, Layout, Version3, Version4, CacheFault, Version, Header, BadItem, TooLong}
use Rattle.krb_file.specs.File.{file_limit}
use Rattle.krb_ccache.specs.Spelling.{header_bytes, name_bytes, keyed_bytes, credential_bytes}
use Rattle.krb_ccache.specs.Value.{Cache, FitsHeader, FitsName, FitsCredential}

-- ---- how the versions differ

-- what a file begins with
abbrev pub version_of : Layout → List ℕ
version_of Version3 = 0x05 ∷ 0x03 ∷ []
version_of Version4 = 0x05 ∷ 0x04 ∷ []

-- what comes between the version and the default principal
abbrev pub head_bytes : Layout → List HeaderField → List ℕ
head_bytes Version3 header = []
head_bytes Version4 header = header_bytes header

abbrev pub FitsHead : Layout → List HeaderField → Type 0
FitsHead Version3 header = header ≡ []
FitsHead Version4 header = FitsHeader header

-- how many bytes the second copy of a key's encryption type has; they may be any bytes
abbrev pub second_size : Layout → ℕ
second_size Version3 = 2
second_size Version4 = 0

-- ---- which bytes are which cache

-- what comes before the default principal
abbrev pub start_bytes : Layout → List HeaderField → List ℕ
start_bytes layout header = version_of layout ++ head_bytes layout header

-- bytes, and the credential that they spell
pub record Spelled : Type 0 where
  pub bytes : List ℕ
  pub credential : Credential

pub record Spells (layout : Layout) (one : Spelled) : Type 0 where
  pub fits : FitsCredential one.credential
  pub second : List ℕ
  pub size : length second ≡ second_size layout
  pub bytes_are : one.bytes ≡ keyed_bytes one.credential second

-- how many bytes spell a credential
abbrev pub credential_length : Layout → Credential → ℕ
credential_length layout credential = length (credential_bytes credential) + second_size layout

-- up to an offset the bytes are a start, a default principal and whole credentials, of this cache;
-- the other bytes come after it
pub record IsReached (layout : Layout) (bytes : List ℕ) (at : ℕ) (cache : Cache) (behind : List ℕ) : Type 0 where
  pub header_fits : FitsHead layout cache.header
  pub name_fits : FitsName cache.default_principal
  pub spelled : List Spelled
  pub spell : All (Spells layout) spelled
  pub credentials_are : cache.credentials ≡ map (λ one. one.credential) spelled
  pub bytes_are : bytes ≡ start_bytes layout cache.header ++ (name_bytes cache.default_principal ++ (flat_map (λ one. one.bytes) spelled ++ behind))
  pub at_is : at ≡ length (start_bytes layout cache.header) + (length (name_bytes cache.default_principal) + length (flat_map (λ one. one.bytes) spelled))

-- the bytes are a cache of this value
pub record IsCache (bytes : List ℕ) (cache : Cache) : Type 0 where
  pub limit : length bytes ≤ file_limit
  pub layout : Layout
  pub at : ℕ
  pub reached : IsReached layout bytes at cache []

-- ---- what is written of a cache: a whole file of version 0x0504

abbrev pub written : Cache → List ℕ
written cache =
    start_bytes Version4 cache.header
    ++ (name_bytes cache.default_principal
    ++ flat_map credential_bytes cache.credentials)

-- ---- faults

-- the bytes are within the limit, and don't begin with a version
pub record LacksVersion (bytes : List ℕ) : Type 0 where
  pub limit : length bytes ≤ file_limit
  pub missing : (layout : Layout) (others : List ℕ) → bytes ≢ version_of layout ++ others

-- they begin with a version, and no header follows
pub record LacksHeader (bytes : List ℕ) : Type 0 where
  pub limit : length bytes ≤ file_limit
  pub layout : Layout
  pub behind : List ℕ
  pub bytes_are : bytes ≡ version_of layout ++ behind
  pub missing : (header : List HeaderField) (others : List ℕ) → FitsHead layout header → behind ≢ head_bytes layout header ++ others

-- they begin with a start, and no principal follows
pub record LacksDefault (bytes : List ℕ) (at : ℕ) : Type 0 where
  pub limit : length bytes ≤ file_limit
  pub layout : Layout
  pub header : List HeaderField
  pub behind : List ℕ
  pub header_fits : FitsHead layout header
  pub bytes_are : bytes ≡ start_bytes layout header ++ behind
  pub at_is : at ≡ length (start_bytes layout header)
  pub missing : (name : Principal) (others : List ℕ) → FitsName name → behind ≢ name_bytes name ++ others

-- they begin with a cache, and more bytes follow that don't begin with a credential
pub record LacksCredential (bytes : List ℕ) (at : ℕ) : Type 0 where
  pub limit : length bytes ≤ file_limit
  pub layout : Layout
  pub cache : Cache
  pub behind : List ℕ
  pub reached : IsReached layout bytes at cache behind
  pub more : behind ≢ []
  pub missing : (one : Spelled) (others : List ℕ) → Spells layout one → behind ≢ one.bytes ++ others

-- why the bytes aren't a cache; an offset is that of the principal or credential that isn't there
abbrev pub IsFaultOf : List ℕ → CacheFault → Type 0
IsFaultOf bytes TooLong = file_limit < length bytes
IsFaultOf bytes Version = LacksVersion bytes
IsFaultOf bytes Header = LacksHeader bytes
IsFaultOf bytes (BadItem at) = LacksDefault bytes at ⊎ LacksCredential bytes at
IsFaultOf bytes _ = ⊥

-- what the bytes are: a cache of this value, or not a cache, and why
abbrev pub IsAnswerOf : List ℕ → Result Cache CacheFault → Type 0
IsAnswerOf bytes (Ok cache) = IsCache bytes cache
IsAnswerOf bytes (Err fault) = IsFaultOf bytes fault
