-- Why there is no request, by why none is built with the credential that is used.
use Rattle.std.proofs.Common.{◌≡◌, ℕ, ℤ, List}
use Rattle.std.specs.Prelude.{IfOk, Result, Ok, Err}
use Rattle.krb_name.specs.declared.principal.Principal.{Principal}
use Rattle.krb_ccache.specs.Value.{Cache}
use Rattle.krb_ccache.specs.declared.credential.Credential.{Credential}
use Rattle.krb_ap.specs.Credentials.{IsUsed}
use Rattle.krb_ap.specs.Request.{Awaited, IsBuilt, IsRequest, awaited_for}
use Rattle.krb_ap.specs.declared.request.RequestOptions.{RequestOptions}

-- what two facts of a value say together
pub if_ok_both : {T E : Type 0} (r : Result T E) {P Q R : T → Type 0} → ((x : T) → P x → Q x → R x) → IfOk r P → IfOk r Q → IfOk r R
if_ok_both (Ok x) both p q = both x p q
if_ok_both (Err e) both p q = tt

module _ (cache : Cache) (service : Principal) (at : ℤ) (credential : Credential) (used : IsUsed cache service at credential) where
  module _ (confounder : List ℕ) (options : RequestOptions) where
    pub requested : (bytes : List ℕ) (awaited : Awaited) → IsBuilt credential at confounder options bytes → awaited ≡ awaited_for credential at options
        → IsRequest cache service at confounder options bytes awaited
    requested bytes awaited built kept = record { credential = credential; used = used; built = built; awaited_is = kept }
