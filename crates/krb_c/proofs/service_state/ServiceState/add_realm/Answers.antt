use Rattle.std.proofs.Common.{◌≡◌, ◌⊎◌, ◌∙◌, ℕ, List, refl, subst, sym}
use Rattle.std.proofs.lemmas.Bool.{false≢true}
use Rattle.std.specs.Prelude.{◌↔◌}
use Rattle.krb_login.specs.Terms.{IsOfRealms}
use Rattle.krb_login.specs.declared.terms.Realms.{Realms}
use Rattle.krb_c.specs.Login.{IsListed, added, unadded}
use Rattle.krb_c.proofs.service_state.ServiceState.add_realm.Goals as goal

pub returns-in_default : goal.returns-in_default
returns-in_default c = unadded c.args.self.now.service.terms.realms refl (λ other. (λ is. is, λ is. is)) c.plain.ensures

pub returns-then-is_added : goal.returns-then-is_added
returns-then-is_added c =
    let realms = c.with_realm-realms.result.0 in
    added realms refl
    (subst (λ (old : Realms). (other : List ℕ) → IsOfRealms realms other ↔ ((other ≡ c.args.realm.now) ⊎ IsListed old other)) c.replace-realms.ensures.value
    (subst (λ (realm : List ℕ). (other : List ℕ) → IsOfRealms realms other ↔ ((other ≡ realm) ⊎ IsListed c.replace-realms.result other)) c.in-Ok.ensures
    (c.with_realm-realms.ensures.added c.if-is_added.true)))
    c.plain-then-is_added.ensures

pub returns-else-is_added : goal.returns-else-is_added
returns-else-is_added c =
    let realms = c.with_realm-realms.result.0 in
    unadded realms refl
    (subst (λ (old : Realms). (other : List ℕ) → IsOfRealms realms other ↔ IsOfRealms old other) c.replace-realms.ensures.value
    (c.with_realm-realms.ensures.no_room (λ is. false≢true (sym c.if-is_added.false ∙ is))))
    c.plain-else-is_added.ensures
