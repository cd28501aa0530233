-- A walk over the credentials of a cache that are for a service: none before has been wanted.
use Rattle.std.proofs.Common.{◌≡◌, ℕ, ◌+◌, List, [], ◌∷◌, ◌++◌, ap, sym, subst, ◌∙◌, take, drop, get_or, arith}
use Rattle.std.specs.Prelude.{All}
use Rattle.std.proofs.Math.Seq.{get_or-append_seam, take-append-add}
use Rattle.std.proofs.lemmas.List.{take-append-drop, take-append-le}
use Rattle.std.proofs.lemmas.List.Elements.{All-nil, All-cons, All-append}
use Rattle.krb_name.specs.Name.{SameName}
use Rattle.krb_name.specs.declared.principal.Principal.{Principal}
use Rattle.krb_name.specs.Named.{HasOtherName, IsFirstNamed}
use Rattle.krb_ccache.specs.Value.{Cache, server_of}
use Rattle.krb_ccache.specs.declared.credential.Credential.{Credential}
use Rattle.krb_ap.specs.Inner.Wanted.{IsWanted, IsFirstOf}
use Rattle.krb_ap.specs.declared.credentials.Wanted.{Wanted}
use Rattle.krb_ap.specs.declared.credentials.Wanted.TheVariants.{Any, Usable, Fit}

serves : (cache : Cache) (service : Principal) (wanted : Wanted) (one : Credential) → IsWanted cache service wanted one → SameName one.server service
serves cache service Any one is = is.server
serves cache service Usable one is = is.is_for.server
serves cache service (Fit at) one is = is.usable_for.is_for.server

module _ (cache : Cache) (service : Principal) (wanted : Wanted) where
  -- it isn't wanted
  abbrev pub Unwanted : Credential → Type 0
  Unwanted one = ¬ IsWanted cache service wanted one

  others_unwanted : (xs : List Credential) → All (HasOtherName server_of service) xs → All Unwanted xs
  others_unwanted xs others k d within is = others k d within (serves cache service wanted _ is)

  parts_unwanted : (from : ℕ) (xs : List Credential) → All Unwanted (take from xs) → All (HasOtherName server_of service) (drop from xs) → All Unwanted xs
  parts_unwanted from xs so_far others =
      subst (All Unwanted) (take-append-drop from xs) (All-append Unwanted (take from xs) (drop from xs) so_far (others_unwanted (drop from xs) others))

  module _ (from : ℕ) (so_far : All Unwanted (take from cache.credentials)) where
    pub none_wanted : All (HasOtherName server_of service) (drop from cache.credentials) → All Unwanted cache.credentials
    none_wanted others = parts_unwanted from cache.credentials so_far others

    module _ (at : ℕ) (f : IsFirstNamed server_of cache.credentials service from at) where
      none_before : All Unwanted f.before
      none_before =
          let same : take from cache.credentials ≡ take from f.before = ap (take from) f.items_are ∙ take-append-le from f.before (f.one ∷ f.after) (omega (arith, f.forward, f.at_is)) in
          parts_unwanted from f.before (subst (All Unwanted) same so_far) f.others

      module _ (one : Credential) (is : one ≡ get_or cache.credentials at one) where
        one_is : one ≡ f.one
        one_is = is ∙ ap (λ (xs : List Credential). get_or xs at one) f.items_are ∙ ap (λ (n : ℕ). get_or (f.before ++ f.one ∷ f.after) n one) f.at_is ∙ get_or-append_seam f.before f.one f.after one

        pub first_wanted : IsWanted cache service wanted one → IsFirstOf (IsWanted cache service wanted) cache.credentials one
        first_wanted holds = record {
          before = f.before;
          after = f.after;
          credentials_are = f.items_are ∙ ap (λ (x : Credential). f.before ++ x ∷ f.after) (sym one_is);
          holds = holds;
          others = none_before;
        }

        pub none_more : Unwanted one → All Unwanted (take (at + 1) cache.credentials)
        none_more not =
            let more : take (at + 1) cache.credentials ≡ f.before ++ one ∷ [] =
            ap (take (at + 1)) f.items_are ∙ ap (λ (n : ℕ). take (n + 1) (f.before ++ f.one ∷ f.after)) f.at_is ∙ take-append-add f.before (f.one ∷ f.after) 1 ∙ ap (λ (x : Credential). f.before ++ x ∷ []) (sym one_is) in
            subst (All Unwanted) (sym more) (All-append Unwanted f.before (one ∷ []) none_before (All-cons Unwanted one [] not (All-nil Unwanted)))
