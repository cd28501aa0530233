-- Which credential of a cache is used for a service at a moment, and what is missing if none is. A
-- ticket is requested in the name of the cache's default principal (RFC 4120, section 3.2.2). Using
-- the first that fits is our choice.
use Rattle.std.specs.Prelude.{◌≡◌, ℤ, pos, ◌<ℤ◌, List, ◌∷◌, ◌++◌, All}
use Rattle.krb_name.specs.Name.{SameName}
use Rattle.krb_name.specs.declared.principal.Principal.{Principal}
use Rattle.krb_enc.specs.Key.{KeyValue, IsUsable}
use Rattle.krb_ccache.specs.Value.{Cache}
use Rattle.krb_ccache.specs.Configuration.{IsConfiguration}
use Rattle.krb_ccache.specs.declared.credential.Credential.{Credential}
use Rattle.krb_ap.specs.Times.{second_at}
use Rattle.krb_ap.specs.declared.request.RequestFault.{RequestFault}
use Rattle.krb_ap.specs.declared.request.RequestFault.TheVariants.{NoCredential, NoUsableKey, Expired}

-- its session key
abbrev pub credential_key : Credential → KeyValue
credential_key credential = record { etype = credential.etype; bytes = credential.key }

-- it is a ticket of the cache's own client for the service
pub record IsFor (cache : Cache) (service : Principal) (credential : Credential) : Type 0 where
  pub ticket : ¬ IsConfiguration credential
  pub client : SameName credential.client cache.default_principal
  pub server : SameName credential.server service

-- and its session key is of type 19 or 20, and of the right length
pub record IsUsableFor (cache : Cache) (service : Principal) (credential : Credential) : Type 0 where
  pub is_for : IsFor cache service credential
  pub usable : IsUsable (credential_key credential)

-- and it ends later than the moment
pub record IsFit (cache : Cache) (service : Principal) (at : ℤ) (credential : Credential) : Type 0 where
  pub usable_for : IsUsableFor cache service credential
  pub lasts : at <ℤ second_at (pos credential.endtime)

-- it is the first such credential of the cache
pub record IsUsed (cache : Cache) (service : Principal) (at : ℤ) (credential : Credential) : Type 0 where
  pub before : List Credential
  pub after : List Credential
  pub credentials_are : cache.credentials ≡ before ++ credential ∷ after
  pub fit : IsFit cache service at credential
  pub first : All (λ other. ¬ IsFit cache service at other) before

-- P holds of some credential of the list
pub record HasCredential (P : Credential → Type 0) (credentials : List Credential) : Type 0 where
  pub before : List Credential
  pub credential : Credential
  pub after : List Credential
  pub credentials_are : credentials ≡ before ++ credential ∷ after
  pub holds : P credential

-- no credential is for the service; or some are, but none has a usable key; or some have, but none
-- ends later than the moment
abbrev pub IsWanting : Cache → Principal → ℤ → RequestFault → Type 0
IsWanting cache service at NoCredential = All (λ one. ¬ IsFor cache service one) cache.credentials
IsWanting cache service at NoUsableKey =
    HasCredential (IsFor cache service) cache.credentials × All (λ one. ¬ IsUsableFor cache service one) cache.credentials
IsWanting cache service at Expired =
    HasCredential (IsUsableFor cache service) cache.credentials × All (λ one. ¬ IsFit cache service at one) cache.credentials
IsWanting cache service at _ = ⊥
