-- A credential cache as a plain value, and which values fit into a file.
use Rattle.std.specs.Prelude.{◌≡◌, ◌<◌, ◌^◌, ℕ, ℤ, List, ◌++◌, length, codes, All, FitsSigned}
use Rattle.std.specs.Fmt.{signed_decimal}
use Rattle.std.specs.Int.{w16, w32}
use Rattle.krb_ccache.specs.Types.{Principal, TypedBytes, HeaderField, Credential}
use Rattle.krb_ccache.specs.Spelling.{fields_bytes}

-- the fields of the header, the default principal and the credentials, in their order
pub record Cache : Type 0 where
  pub header : List HeaderField
  pub default_principal : Principal
  pub credentials : List Credential

abbrev pub cache_of : List HeaderField → Principal → List Credential → Cache
cache_of header default_principal credentials = record { header = header; default_principal = default_principal; credentials = credentials }

-- the service whose ticket a credential is
abbrev pub server_of : Credential → Principal
server_of credential = credential.server

-- what is shown of a printed credential: the encryption type of its key, and no byte
abbrev pub shown : ℤ → List ℕ
shown etype = codes "Credential(etype " ++ (signed_decimal etype ++ codes ")")

-- ---- counts and lengths are numbers of 32 bits, in the header of 16; the KDC's clock offset has 8
-- bytes

pub record HasHeaderLengths (header : List HeaderField) : Type 0 where
  pub whole : length (fields_bytes header) < 2 ^ 16
  pub values : All (λ field. length field.value < 2 ^ 16) header
  pub offsets : All (λ field. field.tag ≡ 1 → length field.value ≡ 8) header

pub record HasNameLengths (name : Principal) : Type 0 where
  pub count : length name.components < 2 ^ 32
  pub realm : length name.realm < 2 ^ 32
  pub components : All (λ component. length component < 2 ^ 32) name.components

pub record HasListLengths (list : List TypedBytes) : Type 0 where
  pub count : length list < 2 ^ 32
  pub each : All (λ element. length element.bytes < 2 ^ 32) list

pub record HasCredentialLengths (credential : Credential) : Type 0 where
  pub client : HasNameLengths credential.client
  pub server : HasNameLengths credential.server
  pub key : length credential.key < 2 ^ 32
  pub addresses : HasListLengths credential.addresses
  pub authdata : HasListLengths credential.authdata
  pub ticket : length credential.ticket < 2 ^ 32
  pub second_ticket : length credential.second_ticket < 2 ^ 32

-- ---- and each number is in the range of its field

pub record FitsHeader (header : List HeaderField) : Type 0 where
  pub lengths : HasHeaderLengths header
  pub tags : All (λ field. field.tag < 2 ^ 16) header

pub record FitsName (name : Principal) : Type 0 where
  pub lengths : HasNameLengths name
  pub name_type : FitsSigned w32 name.name_type

pub record FitsList (list : List TypedBytes) : Type 0 where
  pub lengths : HasListLengths list
  pub kinds : All (λ element. element.kind < 2 ^ 16) list

pub record FitsCredential (credential : Credential) : Type 0 where
  pub client : FitsName credential.client
  pub server : FitsName credential.server
  pub etype : FitsSigned w16 credential.etype
  pub key : length credential.key < 2 ^ 32
  pub authtime : credential.authtime < 2 ^ 32
  pub starttime : credential.starttime < 2 ^ 32
  pub endtime : credential.endtime < 2 ^ 32
  pub renew_till : credential.renew_till < 2 ^ 32
  pub ticket_flags : credential.ticket_flags < 2 ^ 32
  pub addresses : FitsList credential.addresses
  pub authdata : FitsList credential.authdata
  pub ticket : length credential.ticket < 2 ^ 32
  pub second_ticket : length credential.second_ticket < 2 ^ 32

-- ---- so it is with a whole cache: its lengths, and its numbers too

pub record HasLengths (cache : Cache) : Type 0 where
  pub header : HasHeaderLengths cache.header
  pub default_principal : HasNameLengths cache.default_principal
  pub credentials : All HasCredentialLengths cache.credentials

pub record Fits (cache : Cache) : Type 0 where
  pub header : FitsHeader cache.header
  pub default_principal : FitsName cache.default_principal
  pub credentials : All FitsCredential cache.credentials
