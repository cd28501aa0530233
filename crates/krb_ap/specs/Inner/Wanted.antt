-- Which credentials of a cache are looked for, and the first of these.
use Rattle.std.specs.Prelude.{◌≡◌, List, ◌∷◌, ◌++◌, All}
use Rattle.krb_name.specs.declared.principal.Principal.{Principal}
use Rattle.krb_ccache.specs.Value.{Cache}
use Rattle.krb_ccache.specs.declared.credential.Credential.{Credential}
use Rattle.krb_ap.specs.Credentials.{IsFor, IsUsableFor, IsFit}
use Rattle.krb_ap.specs.declared.credentials.Wanted.{Wanted}
use Rattle.krb_ap.specs.declared.credentials.Wanted.TheVariants.{Any, Usable, Fit}

-- those for a service; those with a usable key; or those that fit at a moment
abbrev pub IsWanted : Cache → Principal → Wanted → Credential → Type 0
IsWanted cache service Any credential = IsFor cache service credential
IsWanted cache service Usable credential = IsUsableFor cache service credential
IsWanted cache service (Fit at) credential = IsFit cache service at credential

-- the first credential that P holds of
pub record IsFirstOf (P : Credential → Type 0) (credentials : List Credential) (credential : Credential) : Type 0 where
  pub before : List Credential
  pub after : List Credential
  pub credentials_are : credentials ≡ before ++ credential ∷ after
  pub holds : P credential
  pub others : All (λ other. ¬ P other) before
