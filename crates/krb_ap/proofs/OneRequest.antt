-- A request is built, or there is a reason why not, and not both.
use Rattle.std.proofs.Common.{◌≡◌, ℕ, ℤ, List, [], ◌∷◌, ◌++◌, refl, sym, ◌∙◌, subst}
use Rattle.std.specs.Prelude.{All}
use Rattle.std.proofs.lemmas.List.Elements.{All-head, All-tail, All-same}
use Rattle.krb_name.specs.declared.principal.Principal.{Principal}
use Rattle.krb_der.specs.Spells.{IsMessage}
use Rattle.krb_msg.specs.Module.{ticket as ticket_kind}
use Rattle.krb_ccache.specs.Value.{Cache}
use Rattle.krb_ccache.specs.declared.credential.Credential.{Credential}
use Rattle.krb_ap.specs.Credentials.{IsFor, IsUsableFor, IsFit, IsUsed, HasCredential}
use Rattle.krb_ap.specs.Request.{Awaited, IsBuilt, IsRequest, Prevents}
use Rattle.krb_ap.specs.declared.request.RequestOptions.{RequestOptions}
use Rattle.krb_ap.specs.declared.request.RequestFault.{RequestFault}
use Rattle.krb_ap.proofs.Decided.{head_of, tail_of}
use Rattle.krb_ap.specs.declared.request.RequestFault.TheVariants.{NoCredential, NoUsableKey, Expired, BadTicket, TooLong, OutOfMemory}

-- what holds of all holds of an element
pub holds_at : {X : Type 0} (P : X → Type 0) (before : List X) (x : X) (after : List X) → All P (before ++ x ∷ after) → P x
holds_at P [] x after all = All-head P x after all
holds_at P (b ∷ before) x after all = holds_at P before x after (All-tail P b (before ++ x ∷ after) all)

-- the first that is so is one
one_first : {X : Type 0} (P : X → Type 0) (before : List X) (x : X) (after others : List X) (y : X) (rest : List X)
    → before ++ x ∷ after ≡ others ++ y ∷ rest → All (λ z. ¬ P z) before → P x → All (λ z. ¬ P z) others → P y → x ≡ y
one_first P [] x after [] y rest e none p nor q = head_of x y after rest e
one_first P [] x after (o ∷ others) y rest e none p nor q =
    absurd (All-head (λ z. ¬ P z) o others nor (subst P (head_of x o after (others ++ y ∷ rest) e) p))
one_first P (b ∷ before) x after [] y rest e none p nor q =
    absurd (All-head (λ z. ¬ P z) b before none (subst P (sym (head_of b y (before ++ x ∷ after) rest e)) q))
one_first P (b ∷ before) x after (o ∷ others) y rest e none p nor q =
    one_first P before x after others y rest (tail_of b o (before ++ x ∷ after) (others ++ y ∷ rest) e)
    (All-tail (λ z. ¬ P z) b before none) p (All-tail (λ z. ¬ P z) o others nor) q

none_has : (P : Credential → Type 0) (credentials : List Credential) → All (λ one. ¬ P one) credentials → HasCredential P credentials → ⊥
none_has P credentials none h =
    holds_at (λ one. ¬ P one) h.before h.credential h.after (All-same (λ one. ¬ P one) _ _ (sym h.credentials_are) none) h.holds

module _ (cache : Cache) (service : Principal) (at : ℤ) where
  pub one_used : (c d : Credential) → IsUsed cache service at c → IsUsed cache service at d → c ≡ d
  one_used c d a b = one_first (IsFit cache service at) a.before c a.after b.before d b.after (sym a.credentials_are ∙ b.credentials_are) a.first a.fit b.first b.fit

  none_used : (c : Credential) (P : Credential → Type 0) → IsUsed cache service at c → All (λ one. ¬ P one) cache.credentials → P c → ⊥
  none_used c P a all p = holds_at (λ one. ¬ P one) a.before c a.after (All-same (λ one. ¬ P one) _ _ (sym a.credentials_are) all) p

  for_some : HasCredential (IsUsableFor cache service) cache.credentials → HasCredential (IsFor cache service) cache.credentials
  for_some h = record { before = h.before; credential = h.credential; after = h.after; credentials_are = h.credentials_are; holds = h.holds.is_for }

  -- what prevents a request is one fault
  module _ (confounder : List ℕ) (options : RequestOptions) where
    pub one_fault : (one other : RequestFault) → Prevents cache service at confounder options one → Prevents cache service at confounder options other
        → one ≡ other
    one_fault OutOfMemory _ p q = absurd p
    one_fault _ OutOfMemory p q = absurd q
    one_fault NoCredential NoCredential p q = refl
    one_fault NoCredential NoUsableKey p q = absurd (none_has (IsFor cache service) cache.credentials p q.0)
    one_fault NoCredential Expired p q = absurd (none_has (IsFor cache service) cache.credentials p (for_some q.0))
    one_fault NoCredential BadTicket p q = absurd (none_used q.credential (IsFor cache service) q.used p q.used.fit.usable_for.is_for)
    one_fault NoCredential TooLong p q = absurd (none_used q.credential (IsFor cache service) q.used p q.used.fit.usable_for.is_for)
    one_fault NoUsableKey NoCredential p q = absurd (none_has (IsFor cache service) cache.credentials q p.0)
    one_fault NoUsableKey NoUsableKey p q = refl
    one_fault NoUsableKey Expired p q = absurd (none_has (IsUsableFor cache service) cache.credentials p.1 q.0)
    one_fault NoUsableKey BadTicket p q = absurd (none_used q.credential (IsUsableFor cache service) q.used p.1 q.used.fit.usable_for)
    one_fault NoUsableKey TooLong p q = absurd (none_used q.credential (IsUsableFor cache service) q.used p.1 q.used.fit.usable_for)
    one_fault Expired NoCredential p q = absurd (none_has (IsFor cache service) cache.credentials q (for_some p.0))
    one_fault Expired NoUsableKey p q = absurd (none_has (IsUsableFor cache service) cache.credentials q.1 p.0)
    one_fault Expired Expired p q = refl
    one_fault Expired BadTicket p q = absurd (none_used q.credential (IsFit cache service at) q.used p.1 q.used.fit)
    one_fault Expired TooLong p q = absurd (none_used q.credential (IsFit cache service at) q.used p.1 q.used.fit)
    one_fault BadTicket NoCredential p q = absurd (none_used p.credential (IsFor cache service) p.used q p.used.fit.usable_for.is_for)
    one_fault BadTicket NoUsableKey p q = absurd (none_used p.credential (IsUsableFor cache service) p.used q.1 p.used.fit.usable_for)
    one_fault BadTicket Expired p q = absurd (none_used p.credential (IsFit cache service at) p.used q.1 p.used.fit)
    one_fault BadTicket BadTicket p q = refl
    one_fault BadTicket TooLong p q = absurd (p.bad q.ticket (subst (λ (c : Credential). IsMessage ticket_kind q.ticket c.ticket) (one_used q.credential p.credential q.used p.used) q.ticket_is))
    one_fault TooLong NoCredential p q = absurd (none_used p.credential (IsFor cache service) p.used q p.used.fit.usable_for.is_for)
    one_fault TooLong NoUsableKey p q = absurd (none_used p.credential (IsUsableFor cache service) p.used q.1 p.used.fit.usable_for)
    one_fault TooLong Expired p q = absurd (none_used p.credential (IsFit cache service at) p.used q.1 p.used.fit)
    one_fault TooLong BadTicket p q = absurd (q.bad p.ticket (subst (λ (c : Credential). IsMessage ticket_kind p.ticket c.ticket) (one_used p.credential q.credential p.used q.used) p.ticket_is))
    one_fault TooLong TooLong p q = refl

  module _ (confounder : List ℕ) (options : RequestOptions) (bytes : List ℕ) (awaited : Awaited) where
    pub built_or_prevented : (fault : RequestFault) → IsRequest cache service at confounder options bytes awaited
        → Prevents cache service at confounder options fault → ⊥
    built_or_prevented NoCredential r p = none_used r.credential (IsFor cache service) r.used p r.used.fit.usable_for.is_for
    built_or_prevented NoUsableKey r p = none_used r.credential (IsUsableFor cache service) r.used p.1 r.used.fit.usable_for
    built_or_prevented Expired r p = none_used r.credential (IsFit cache service at) r.used p.1 r.used.fit
    built_or_prevented BadTicket r p =
        p.bad r.built.ticket (subst (λ (c : Credential). IsMessage ticket_kind r.built.ticket c.ticket) (one_used r.credential p.credential r.used p.used) r.built.ticket_is)
    built_or_prevented TooLong r p =
        p.unwritten bytes (subst (λ (c : Credential). IsBuilt c at confounder options bytes) (one_used r.credential p.credential r.used p.used) r.built)
    built_or_prevented OutOfMemory r p = p
