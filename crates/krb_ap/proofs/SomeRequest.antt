-- There is a request, or something prevents it; and it is one.
use Rattle.std.proofs.Common.{◌≡◌, ℕ, ℤ, pos, List, [], ◌∷◌, refl, sym, ◌∙◌, ap, subst, inl, inr, ◌⊎◌}
use Rattle.std.specs.Prelude.{All, codes}
use Rattle.std.proofs.lemmas.List.Elements.{All-nil, All-cons}
use Rattle.krb_name.specs.declared.principal.Principal.{Principal}
use Rattle.krb_msg.specs.Module.{ticket as ticket_kind, is_ticket}
use Rattle.krb_ccache.specs.Value.{Cache}
use Rattle.krb_ccache.specs.Configuration.{BeginsWith, IsConfiguration}
use Rattle.krb_ccache.specs.declared.credential.Credential.{Credential}
use Rattle.krb_ap.specs.Times.{second_at}
use Rattle.krb_ap.specs.Credentials.{HasCredential, IsFor, IsUsableFor, IsFit, IsUsed, IsWanting, credential_key}
use Rattle.krb_ap.specs.Request.{Awaited, IsBuilt, IsRequest, Prevents, awaited_for}
use Rattle.krb_ap.specs.Inner.Facts.{Facts, WritingFacts}
use Rattle.krb_ap.specs.Inner.Decisions.{Decisions}
use Rattle.krb_ap.specs.Inner.Wanted.{IsFirstOf}
use Rattle.krb_ap.specs.declared.request.RequestOptions.{RequestOptions}
use Rattle.krb_ap.specs.declared.request.RequestFault.{RequestFault}
use Rattle.krb_ap.specs.declared.request.RequestFault.TheVariants.{NoCredential, NoUsableKey, Expired, BadTicket, TooLong}
use Rattle.krb_ap.proofs.Building.{one_built}
use Rattle.krb_ap.proofs.Decided.{Decided, both, head_of, later, none_of, same_name, texts}
use Rattle.krb_ap.proofs.OneRequest.{one_used}

-- ---- which credentials fit is decided

begins : (components : List (List ℕ)) (first : List ℕ) → Decided (BeginsWith components first)
begins [] first = inr (λ h. cc)
begins (c ∷ others) first = elim (texts c first) [
  | inl same ↦ inl (others, ap (λ (x : List ℕ). x ∷ others) same)
  | inr other ↦ inr (λ h. other (head_of c first others h.0 h.1))
]

configures : (c : Credential) → Decided (IsConfiguration c)
configures c = elim (both _ _ (texts c.server.realm (codes "X-CACHECONF:")) (begins c.server.components (codes "krb5_ccache_conf_data"))) [
  | inl h ↦ inl (record { realm = h.0; components = h.1 })
  | inr none ↦ inr (λ h. none (h.realm, h.components))
]

-- the first of a list that is so, if there is one
search : (P : Credential → Type 0) → ((c : Credential) → Decided (P c)) → (credentials : List Credential)
    → ((c : Credential) × IsFirstOf P credentials c) ⊎ All (λ one. ¬ P one) credentials
search P decide [] = inr (All-nil (λ one. ¬ P one))
search P decide (c ∷ rest) = elim (decide c) [
  | inl p ↦ inl (c, record { before = []; after = rest; credentials_are = refl; holds = p; others = All-nil (λ one. ¬ P one) })
  | inr not ↦ elim (search P decide rest) [
    | inl f ↦ inl (
      f.0,
      record {
        before = c ∷ f.1.before;
        after = f.1.after;
        credentials_are = ap (λ (l : List Credential). c ∷ l) f.1.credentials_are;
        holds = f.1.holds;
        others = All-cons (λ one. ¬ P one) c f.1.before not f.1.others;
      },
    )
    | inr none ↦ inr (All-cons (λ one. ¬ P one) c rest not none)
  ]
]

has : (P : Credential → Type 0) (credentials : List Credential) (c : Credential) → IsFirstOf P credentials c → HasCredential P credentials
has P credentials c f = record { before = f.before; credential = c; after = f.after; credentials_are = f.credentials_are; holds = f.holds }

module _ (d : Decisions) (cache : Cache) (service : Principal) (at : ℤ) where
  is_for : (c : Credential) → Decided (IsFor cache service c)
  is_for c = elim (both _ _ (none_of _ (configures c)) (both _ _ (same_name c.client cache.default_principal) (same_name c.server service))) [
    | inl h ↦ inl (record { ticket = h.0; client = h.1.0; server = h.1.1 })
    | inr none ↦ inr (λ h. none (h.ticket, (h.client, h.server)))
  ]

  is_usable_for : (c : Credential) → Decided (IsUsableFor cache service c)
  is_usable_for c = elim (both _ _ (is_for c) (d.usable (credential_key c))) [
    | inl h ↦ inl (record { is_for = h.0; usable = h.1 })
    | inr none ↦ inr (λ h. none (h.is_for, h.usable))
  ]

  is_fit : (c : Credential) → Decided (IsFit cache service at c)
  is_fit c = elim (both _ _ (is_usable_for c) (later at (second_at (pos c.endtime)))) [
    | inl h ↦ inl (record { usable_for = h.0; lasts = h.1 })
    | inr none ↦ inr (λ h. none (h.usable_for, h.lasts))
  ]

  used_or_wanting : ((c : Credential) × IsUsed cache service at c) ⊎ ((fault : RequestFault) × IsWanting cache service at fault)
  used_or_wanting = elim (search (IsFit cache service at) is_fit cache.credentials) [
    | inl f ↦ inl (f.0, record { before = f.1.before; after = f.1.after; credentials_are = f.1.credentials_are; fit = f.1.holds; first = f.1.others })
    | inr unfit ↦ elim (search (IsUsableFor cache service) is_usable_for cache.credentials) [
      | inl f ↦ inr (Expired, (has (IsUsableFor cache service) cache.credentials f.0 f.1, unfit))
      | inr unusable ↦ elim (search (IsFor cache service) is_for cache.credentials) [
        | inl f ↦ inr (NoUsableKey, (has (IsFor cache service) cache.credentials f.0 f.1, unusable))
        | inr none ↦ inr (NoCredential, none)
      ]
    ]
  ]

  module _ (confounder : List ℕ) (options : RequestOptions) where
    prevents : (fault : RequestFault) → IsWanting cache service at fault → Prevents cache service at confounder options fault
    prevents NoCredential w = w
    prevents NoUsableKey w = w
    prevents Expired w = w
    prevents _ w = absurd w

    -- where no bytes are the request, something prevents it
    pub prevented : ((bytes : List ℕ) (awaited : Awaited) → ¬ IsRequest cache service at confounder options bytes awaited)
        → (fault : RequestFault) × Prevents cache service at confounder options fault
    prevented none = elim used_or_wanting [
      | inr w ↦ (w.0, prevents w.0 w.1)
      | inl used ↦ elim (d.message ticket_kind is_ticket used.0.ticket) [
        | inr bad ↦ (BadTicket, record { credential = used.0; used = used.1; bad = bad })
        | inl good ↦ (
          TooLong,
          record {
            credential = used.0;
            used = used.1;
            ticket = good.0;
            ticket_is = good.1;
            unwritten = λ bytes built. none bytes (awaited_for used.0 at options) (record { credential = used.0; used = used.1; built = built; awaited_is = refl });
          },
        )
      ]
    ]

-- ---- and it is one

pub one_request : Facts → WritingFacts → (cache : Cache) (service : Principal) (at : ℤ) (confounder : List ℕ) (options : RequestOptions)
    (a b : List ℕ) (one other : Awaited) → IsRequest cache service at confounder options a one → IsRequest cache service at confounder options b other
    → (a ≡ b) × (one ≡ other)
one_request facts w cache service at confounder options a b one other p q =
    let same : p.credential ≡ q.credential = one_used cache service at p.credential q.credential p.used q.used in (
      one_built w q.credential at options facts confounder a b (subst (λ (c : Credential). IsBuilt c at confounder options a) same p.built) q.built,
      p.awaited_is ∙ (ap (λ (c : Credential). awaited_for c at options) same ∙ sym q.awaited_is),
    )
