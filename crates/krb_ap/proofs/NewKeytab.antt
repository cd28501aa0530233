-- What a history shows, once the service has another keytab.
use Rattle.std.proofs.Common.{◌≡◌, ℤ, List, [], ◌∷◌, map, refl, sym, ◌∙◌, ap, subst, inl, inr, Option, Some}
use Rattle.std.specs.Prelude.{IfSome}
use Rattle.krb_keytab.specs.Entry.{KeytabEntry}
use Rattle.krb_replay.specs.Stamp.{Stamp}
use Rattle.krb_replay.specs.Memory.{later_of, IsRecent, SameStamps}
use Rattle.krb_ap.specs.Setup.{Setup, Arrival, as_decided, decided_by, setup_for, with_entries}
use Rattle.krb_ap.specs.History.{greatest, IsShown, Shows, StandsFor}

pub same_greatest : (entries : List KeytabEntry) (history : List Arrival) → greatest (map (decided_by entries) history) ≡ greatest history
same_greatest entries [] = refl
same_greatest entries (a ∷ history) = ap (λ (l : Option ℤ). Some (later_of l a.moment)) (same_greatest entries history)

module _ (setup : Setup) (entries : List KeytabEntry) where
  -- the same as before
  pub still_shown : (history : List Arrival) (stamp : Stamp) → IsShown setup history stamp → IsShown (with_entries setup entries) (as_decided setup history) stamp
  still_shown [] stamp shown = shown
  still_shown (a ∷ history) stamp (inl shows) =
      inl (subst (λ (l : Option ℤ). Shows (setup_for setup a) (later_of l a.moment) a.bytes stamp) (sym (same_greatest setup.entries history)) shows)
  still_shown (a ∷ history) stamp (inr shown) = inr (still_shown history stamp shown)

  pub shown_before : (history : List Arrival) (stamp : Stamp) → IsShown (with_entries setup entries) (as_decided setup history) stamp → IsShown setup history stamp
  shown_before [] stamp shown = shown
  shown_before (a ∷ history) stamp (inl shows) =
      inl (subst (λ (l : Option ℤ). Shows (setup_for setup a) (later_of l a.moment) a.bytes stamp) (same_greatest setup.entries history) shows)
  shown_before (a ∷ history) stamp (inr shown) = inr (shown_before history stamp shown)

  -- so the memory stands for it
  pub still_stands : (Has : Stamp → Type 0) (latest : Option ℤ) (history : List Arrival) → StandsFor setup Has latest history
      → StandsFor (with_entries setup entries) Has latest (as_decided setup history)
  still_stands Has latest history stands = record {
    latest_is = stands.latest_is ∙ sym (same_greatest setup.entries history);
    only = λ stamp had. still_shown history stamp (stands.only stamp had);
    all = λ stamp shown recent. stands.all stamp (shown_before history stamp shown)
        (subst (λ (l : Option ℤ). IfSome l (λ now. IsRecent now setup.skew stamp)) (same_greatest setup.entries history) recent);
  }

-- as of a service
pub renewed_stands : {M : Type 0} (has : M → Stamp → Type 0) (newest : M → Option ℤ) (setup next : Setup) (entries : List KeytabEntry) (old new : M)
    → next ≡ with_entries setup entries → new ≡ old → (history : List Arrival) → StandsFor setup (has old) (newest old) history
    → StandsFor next (has new) (newest new) (as_decided setup history)
renewed_stands has newest setup next entries old new e f history stands =
    subst (λ (s : Setup). StandsFor s (has new) (newest new) (as_decided setup history)) (sym e)
    (subst (λ (m : _). StandsFor (with_entries setup entries) (has m) (newest m) (as_decided setup history)) (sym f)
    (still_stands setup entries (has old) (newest old) history stands))

pub renewed_shows : (setup next : Setup) (entries : List KeytabEntry) → next ≡ with_entries setup entries → (history : List Arrival)
    → SameStamps (IsShown setup history) (IsShown next (as_decided setup history))
renewed_shows setup next entries e history =
    subst (λ (s : Setup). SameStamps (IsShown setup history) (IsShown s (as_decided setup history))) (sym e)
    (λ stamp. (shown_before setup entries history stamp, still_shown setup entries history stamp))
