-- Limits of a memory: sets that have the same stamps since a moment reach the same ones.
use Rattle.std.proofs.Common.{◌≡◌, ◌⊎◌, inl, inr, ℕ, ℤ, List, [], ◌∷◌, Option, Some, None, pos, ◌-ℤ◌, sym, subst, ◌∙◌}
use Rattle.std.specs.Prelude.{◌↔◌, ◌≤ℤ◌}
use Rattle.krb_replay.specs.Limit.{CountsFirst, CountsOne, HasAtLeast, IsPastAny, Limits, Reaches, ReachesAny, Since}
use Rattle.krb_replay.specs.Memory.{SameStamps, later_of}
use Rattle.krb_replay.specs.Stamp.{RealmAndName, Stamp}
use Rattle.krb_ap.specs.Setup.{Setup, Arrival}
use Rattle.krb_ap.specs.History.{StandsFor, effective}
use Rattle.krb_ap.specs.Causes.{Cause, IsRemembered}
use Rattle.krb_ap.specs.Service.{CountsPastLimit, HeedsLimits, IsPastLimit, Service, ShowsPastLimit}
use Rattle.krb_ap.specs.Inner.Facts.{Facts}
use Rattle.krb_ap.specs.declared.refusal.Refusal.{Refusal}
use Rattle.krb_ap.specs.Times.{Near}
use Rattle.krb_ap.proofs.OfOpened.{adds_nothing}
use Rattle.krb_ap.proofs.TurnedAway.{near_is_recent}

-- a set that has each stamp of another since a moment reaches what that one reaches
module _ (oldest : ℤ) where
  as_many : (One Other : Stamp → Type 0) (client : Option RealmAndName) (count : ℕ) → ((stamp : Stamp) → oldest ≤ℤ stamp.time → One stamp → Other stamp)
      → HasAtLeast (Since One client oldest) count → HasAtLeast (Since Other client oldest) count
  as_many One Other client count so h = record {
    stamps = h.stamps;
    once = h.once;
    among = λ stamp there. let held = h.among stamp there in (so stamp held.1.0 held.0, held.1);
    enough = h.enough;
  }

  reaches : (One Other : Stamp → Type 0) (stamp : Stamp) (limits : Limits) → ((stamp : Stamp) → oldest ≤ℤ stamp.time → One stamp → Other stamp)
      → Reaches One oldest stamp limits → Reaches Other oldest stamp limits
  reaches One Other stamp limits so (inl h) = inl (as_many One Other None limits.all so h)
  reaches One Other stamp limits so (inr h) = inr (as_many One Other (Some stamp.client) limits.of_client so h)

  reaches_any : (One Other : Stamp → Type 0) (stamp : Stamp) (limits : List Limits) → ((stamp : Stamp) → oldest ≤ℤ stamp.time → One stamp → Other stamp)
      → ReachesAny One oldest stamp limits → ReachesAny Other oldest stamp limits
  reaches_any One Other stamp [] so h = h
  reaches_any One Other stamp (one ∷ more) so (inl h) = inl (reaches One Other stamp one so h)
  reaches_any One Other stamp (one ∷ more) so (inr h) = inr (reaches_any One Other stamp more so h)

  -- so two that have the same since then have the same first limit that is reached
  pub counts_first : (One Other : Stamp → Type 0) (stamp : Stamp) → ((stamp : Stamp) → oldest ≤ℤ stamp.time → (One stamp ↔ Other stamp))
      → (limits : List Limits) (old new : List ℕ) → CountsFirst One oldest stamp limits old new → CountsFirst Other oldest stamp limits old new
  counts_first One Other stamp same [] old new h = absurd h
  counts_first One Other stamp same (one ∷ more) [] new h = absurd h
  counts_first One Other stamp same (one ∷ more) (o ∷ olds) [] h = absurd h
  counts_first One Other stamp same (one ∷ more) (o ∷ olds) (n ∷ news) (inl h) =
      inl (reaches One Other stamp one (λ s later. (same s later).0) h.0, h.1)
  counts_first One Other stamp same (one ∷ more) (o ∷ olds) (n ∷ news) (inr h) =
      inr (λ r. h.0 (reaches Other One stamp one (λ s later. (same s later).1) r), (h.1.0, counts_first One Other stamp same more olds news h.1.1))

  pub is_past : (One Other : Stamp → Type 0) (stamp : Stamp) (limits : List Limits) → ((stamp : Stamp) → oldest ≤ℤ stamp.time → (One stamp ↔ Other stamp))
      → (Other stamp → One stamp) → IsPastAny One oldest stamp limits → IsPastAny Other oldest stamp limits
  is_past One Other stamp limits same had past = (λ held. past.0 (had held), reaches_any One Other stamp limits (λ s later. (same s later).0) past.1)

-- A service, as its parts have it, and its memory between two calls: it has the same stamps, limits and counts.
module _ {M : Type 0} (has : M → Stamp → Type 0) (limits : M → List Limits) (refusals : M → List ℕ) (newest : M → Option ℤ) (inside service : Service M)
    (mid : M) (now : ℤ) (stamp : Stamp) (new : List ℕ) (Refused : Type 0) (view : inside ≡ service) (same : SameStamps (has inside.memory) (has mid))
    (is : limits mid ≡ limits inside.memory) (stays : refusals mid ≡ refusals inside.memory) where
  abbrev IsPast : Service M → Type 0
  IsPast s = IsPastLimit (has s.memory) (limits s.memory) s.setup (later_of (newest s.memory) now) stamp

  abbrev Counts : Service M → Type 0
  Counts s = CountsPastLimit (has s.memory) (limits s.memory) (refusals s.memory) new s.setup (later_of (newest s.memory) now) stamp

  abbrev oldest : ℤ
  oldest = later_of (newest inside.memory) now -ℤ pos inside.setup.skew

  abbrev IsPastBetween : Type 0
  IsPastBetween = IsPastAny (has mid) oldest stamp (limits mid)

  abbrev CountsBetween : Type 0
  CountsBetween = CountsFirst (has mid) oldest stamp (limits mid) (refusals mid) new

  between : IsPast inside → IsPastBetween
  between past = subst (λ (l : List Limits). IsPastAny (has mid) oldest stamp l) (sym is)
      (is_past oldest (has inside.memory) (has mid) stamp (limits inside.memory) (λ s later. ((same s).1, (same s).0)) (same stamp).0 past)

  inside_past : IsPastBetween → IsPast inside
  inside_past past = is_past oldest (has mid) (has inside.memory) stamp (limits inside.memory) (λ s later. same s) (same stamp).1
      (subst (λ (l : List Limits). IsPastAny (has mid) oldest stamp l) is past)

  inside_counts : CountsBetween → Counts inside
  inside_counts counts = counts_first oldest (has mid) (has inside.memory) stamp (λ s later. same s) (limits inside.memory) (refusals inside.memory) new
      (subst (λ (old : List ℕ). CountsFirst (has mid) oldest stamp (limits inside.memory) old new) stays
      (subst (λ (l : List Limits). CountsFirst (has mid) oldest stamp l (refusals mid) new) is counts))

  -- what the memory refuses
  pub full_of : (IsPastBetween → Refused × CountsOne (refusals mid) new) → (IsPastBetween → CountsBetween) → IsPast service → Refused × Counts service
  full_of refuses counts = subst (λ (s : Service M). IsPast s → Refused × Counts s) view
      (λ past. ((refuses (between past)).0, inside_counts (counts (between past))))

  -- and what is counted as refused
  pub counted_of : (new ≡ refusals mid) ⊎ (CountsOne (refusals mid) new × (Refused × IsPastBetween)) → (IsPastBetween → CountsBetween)
      → (new ≡ refusals service.memory) ⊎ (Refused × (IsPast service × Counts service))
  counted_of counted counts = subst (λ (s : Service M). (new ≡ refusals s.memory) ⊎ (Refused × (IsPast s × Counts s))) view (elim counted [
    | inl e ↦ inl (e ∙ stays)
    | inr h ↦ inr (h.1.0, (inside_past h.1.1, inside_counts (counts h.1.1)))
  ])

-- a request that is refused without being remembered isn't counted
pub not_counted : Facts → (Has : Stamp → Type 0) (limits : List Limits) (old new : List ℕ) (latest : Option ℤ) (setup : Setup) (history : List Arrival)
    (call : Arrival) (cause : Refusal) (IsLacking : Type 0) → StandsFor setup Has latest history
    → HeedsLimits Has limits old new setup history call IsLacking → Cause setup history call cause → ¬ IsRemembered cause → new ≡ old
not_counted facts Has limits old new latest setup history call cause IsLacking stands heeds holds early = elim heeds.counted [
  | inl e ↦ e
  | inr h ↦ (let past : ShowsPastLimit Has limits setup history call h.0 = h.1.1.0 in
      absurd (past.1.0 (stands.all h.0 (adds_nothing facts setup history call cause early holds h.0 past.0)
      (near_is_recent setup history call.moment h.0
      (subst (λ (s : Stamp). Near s.time (effective history call.moment) setup.skew) (sym past.0.stamp_is) past.0.near)))))
]
