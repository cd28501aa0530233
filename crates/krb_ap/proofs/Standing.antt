-- What a memory stands for after a call.
use Rattle.std.proofs.Common.{◌≡◌, ℕ, ℤ, pos, List, ◌∷◌, refl, sym, ◌∙◌, subst, ap, inl, inr, ◌⊎◌, arith, Option, Some, None}
use Rattle.std.specs.Prelude.{◌≤ℤ◌, ◌-ℤ◌, Bool, IfSome, IsTrue}
use Rattle.std.proofs.lemmas.Int.{ints}
use Rattle.krb_replay.specs.Stamp.{Stamp}
use Rattle.krb_replay.specs.Memory.{later_of, IsRecent, SameStamps}
use Rattle.krb_ap.specs.Setup.{Setup, Arrival, arrival}
use Rattle.krb_ap.specs.History.{greatest, effective, Shows, IsShown, IsStillRecent, StandsFor}
use Rattle.krb_ap.specs.Inner.Facts.{Facts}
use Rattle.krb_ap.specs.Inner.GoingOn.{GoesOn}
use Rattle.krb_ap.proofs.TurnedAway.{later_is_later, shown_stamp}

-- the moment that counts is its own
pub counts_once : (latest : Option ℤ) (moment : ℤ) → later_of latest (later_of latest moment) ≡ later_of latest moment
counts_once None moment = refl
counts_once (Some latest) moment = grind (arith, ints)

-- the latest moment after an advance to the one that counts
pub moved_on : (latest mid next : Option ℤ) (moment now : ℤ) → now ≡ later_of latest moment → mid ≡ latest → next ≡ Some (later_of mid now)
    → next ≡ Some (later_of latest moment)
moved_on latest mid next moment now is_now is_mid is_next =
    is_next ∙ ap Some (ap (λ (l : Option ℤ). later_of l now) is_mid ∙ (ap (later_of latest) is_now ∙ counts_once latest moment))

still : (latest now time : ℤ) (skew : ℕ) → latest ≤ℤ now → (now -ℤ pos skew) ≤ℤ time → (latest -ℤ pos skew) ≤ℤ time
still latest now time skew h g = omega (arith, ints)

-- what is recent later was recent before
pub recent_before : (setup : Setup) (history : List Arrival) (moment : ℤ) (stamp : Stamp)
    → IsRecent (effective history moment) setup.skew stamp → IsStillRecent setup history stamp
recent_before setup history moment stamp h = at (greatest history) h
  where
    at : (latest : Option ℤ) → IsRecent (later_of latest moment) setup.skew stamp → IfSome latest (λ now. IsRecent now setup.skew stamp)
    at None h = tt
    at (Some latest) h = still latest (later_of (Some latest) moment) stamp.time setup.skew (later_is_later latest moment) h

-- after a call the memory has what it had and what was shown, as far as it is recent
pub stands_on : (setup : Setup) (history : List Arrival) (bytes : List ℕ) (moment : ℤ) (Old New : Stamp → Type 0) (latest next : Option ℤ)
    → StandsFor setup Old latest history → next ≡ Some (effective history moment)
    → ((stamp : Stamp) → New stamp → Old stamp ⊎ Shows setup (effective history moment) bytes stamp)
    → ((stamp : Stamp) → Old stamp ⊎ Shows setup (effective history moment) bytes stamp → IsRecent (effective history moment) setup.skew stamp → New stamp)
    → StandsFor setup New next (arrival bytes moment ∷ history)
stands_on setup history bytes moment Old New latest next stands is added kept = record {
  latest_is = is;
  only = λ stamp new. elim (added stamp new) [
    | inl old ↦ inr (stands.only stamp old)
    | inr shows ↦ inl shows
  ];
  all = λ stamp shown recent. kept stamp (held stamp recent shown) recent;
}
  where
    held : (stamp : Stamp) → IsRecent (effective history moment) setup.skew stamp → IsShown setup (arrival bytes moment ∷ history) stamp
        → Old stamp ⊎ Shows setup (effective history moment) bytes stamp
    held stamp recent shown = elim shown [
      | inl shows ↦ inr shows
      | inr before ↦ inl (stands.all stamp before (recent_before setup history moment stamp recent))
    ]

-- a memory of the same stamps and moment stands for the same
pub stands_still : (setup : Setup) (history : List Arrival) (Old New : Stamp → Type 0) (latest next : Option ℤ)
    → StandsFor setup Old latest history → SameStamps Old New → next ≡ latest → StandsFor setup New next history
stands_still setup history Old New latest next stands same e = record {
  latest_is = e ∙ stands.latest_is;
  only = λ stamp new. stands.only stamp ((same stamp).0 new);
  all = λ stamp shown recent. (same stamp).1 (stands.all stamp shown recent);
}

-- bytes show one stamp at most
pub one_stamp : Facts → (setup : Setup) (history : List Arrival) (bytes : List ℕ) (moment now : ℤ) (one other : Stamp)
    → Shows setup now bytes one → Shows setup now bytes other → other ≡ one
one_stamp facts setup history bytes moment now one other shows also =
    shown_stamp facts setup history bytes moment (λ s. ⊥) shows.request shows.part shows.auth shows.opened now other also ∙ sym shows.stamp_is

-- after a memory was given what is shown, and the moment that counts
pub after_advance : (keeping forgetting : Bool) (setup other : Setup) (history later : List Arrival) (bytes : List ℕ) (moment now : ℤ)
    (Old Mid New : Stamp → Type 0) (latest mid next : Option ℤ) (IsMemory : Type 0) → arrival bytes moment ∷ history ≡ later
    → StandsFor setup Old latest history → now ≡ later_of latest moment → mid ≡ latest → next ≡ Some (later_of mid now) → other ≡ setup
    → ((stamp : Stamp) → Mid stamp → Old stamp ⊎ Shows setup (effective history moment) bytes stamp)
    → ((stamp : Stamp) → Old stamp ⊎ Shows setup (effective history moment) bytes stamp → Mid stamp)
    → ((stamp : Stamp) → New stamp → Mid stamp)
    → ((stamp : Stamp) → Mid stamp → IsRecent (later_of mid now) setup.skew stamp → New stamp)
    → (IsTrue keeping → SameStamps Mid New)
    → (IsTrue forgetting → (stamp : Stamp) → New stamp → IsRecent (later_of mid now) setup.skew stamp)
    → GoesOn keeping forgetting setup other history later Old New next IsMemory
after_advance keeping forgetting setup other history later bytes moment now Old Mid New latest mid next IsMemory is_later stands is_now is_mid is_next same added held none_added kept keeps forgets =
    let count : later_of mid now ≡ effective history moment =
    ap (λ (l : Option ℤ). later_of l now) is_mid ∙ (ap (later_of latest) is_now ∙ (counts_once latest moment ∙ ap (λ (l : Option ℤ). later_of l moment) stands.latest_is)) in
    subst (λ (h : List Arrival). GoesOn keeping forgetting setup other history h Old New next IsMemory) is_later (record {
      stands = subst (λ (s : Setup). StandsFor s New next (arrival bytes moment ∷ history)) (sym same)
          (stands_on setup history bytes moment Old New latest next stands (is_next ∙ ap Some count)
          (λ stamp new. added stamp (none_added stamp new))
          (λ stamp had recent. kept stamp (held stamp had) (subst (λ (n : ℤ). IsRecent n setup.skew stamp) (sym count) recent)));
      keeps = λ keeping exact stamp. (
        λ new. elim (added stamp ((keeps keeping stamp).0 new)) [ inl old ↦ inr ((exact stamp).0 old) | inr shows ↦ inl shows ],
        λ shown. (keeps keeping stamp).1 (held stamp (elim shown [ inl shows ↦ inr shows | inr before ↦ inl ((exact stamp).1 before) ])),
      );
      forgets = λ forgetting named stamp new. subst (λ (n : ℤ). IsRecent n setup.skew stamp) count (forgets forgetting stamp new);
    })
