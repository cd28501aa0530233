-- In every world that comes about no stamp is accepted twice, whatever the service's keys open.
use Rattle.std.proofs.Common.{◌≡◌, ℕ, ℤ, List, [], ◌∷◌, ◌++◌, refl, sym, ◌∙◌, subst, inl, inr, ◌⊎◌, Some}
use Rattle.std.specs.Prelude.{◌≤ℤ◌}
use Rattle.krb_ccache.specs.declared.credential.Credential.{Credential}
use Rattle.krb_replay.specs.Stamp.{Stamp}
use Rattle.krb_ap.specs.Setup.{Setup, Arrival}
use Rattle.krb_ap.specs.Opened.{stamp_of}
use Rattle.krb_ap.specs.Quiet.{IsPast}
use Rattle.krb_ap.specs.History.{IsShown}
use Rattle.krb_ap.specs.Taken.{Taken, Accept}
use Rattle.krb_ap.specs.Once.{HasStamp}
use Rattle.krb_ap.specs.World.{Held, Replied, World, Event, sends, accepts, refuses, replies, errs, ends, restarts, IsOf, Can, Comes, happens, nothing_yet, IsHeldAmong, HoldsOnce, IsHeldOnce}
use Rattle.krb_ap.specs.Inner.Facts.{Facts}
use Rattle.krb_ap.proofs.Behind.{IsWithin, not_past, of_back, of_front, shown_within, wider}
use Rattle.krb_ap.proofs.Entries.{has_stamp_by, opened_by}
use Rattle.krb_ap.proofs.Once.{one_stamp, shown_behind}
use Rattle.krb_ap.proofs.Worlds.{Each, AreApart, apart_more, each_more, kept, of_all}

module _ (facts : Facts) (setup : Setup) (credential : Credential) where
  -- what is held of a stamp was shown since the last start, or is of a time before it
  abbrev IsOld : World → Stamp → Type 0
  IsOld w stamp = IsShown w.setup w.history stamp ⊎ IsWithin w.earlier w.setup.skew stamp

  abbrev IsStamped : Held → Type 0
  IsStamped h = (stamp : Stamp) × HasStamp setup h.call.bytes stamp

  abbrev IsSingle : World → Type 0
  IsSingle w = record {
    entries : w.setup.entries ≡ setup.entries;
    begun : Each w.earlier (λ a. (start : ℤ) × ((w.setup.start ≡ Some start) × (a.moment ≤ℤ start)));
    stamps : HoldsOnce setup w.held;
    stamped : Each w.held IsStamped;
    old : (stamp : Stamp) → IsHeldAmong setup w.held stamp → IsOld w stamp;
    replied : Each w.replied (λ r. IsOf w.held r.held);
    one_reply : AreApart (λ (r : Replied). r.held) w.replied;
  }

  nothing : IsSingle (nothing_yet setup)
  nothing = record {
    entries = refl;
    begun = λ a o. absurd o;
    stamps = tt;
    stamped = λ h o. absurd o;
    old = λ stamp among. absurd among;
    replied = λ r o. absurd o;
    one_reply = λ q r o p e. absurd o;
  }

  -- ---- a request is accepted

  module _ (w : World) (single : IsSingle w) (call : Arrival) (taken : Taken) (accept : Accept w.setup w.history call taken) where
    stamp_is : (stamp : Stamp) → HasStamp setup call.bytes stamp → stamp ≡ stamp_of accept.request accept.part accept.auth
    stamp_is stamp here = one_stamp facts w.setup w.history call taken stamp accept (has_stamp_by setup w.setup (sym single.entries) call.bytes stamp here)

    new_stamp : (stamp : Stamp) → HasStamp setup call.bytes stamp → ¬ IsHeldAmong setup w.held stamp
    new_stamp stamp here among = elim (single.old stamp among) [
      | inl shown ↦ accept.unshown (subst (λ (s : Stamp). IsShown w.setup w.history s) (stamp_is stamp here) shown)
      | inr before ↦ not_past w.setup w.earlier stamp single.begun before
          (subst (λ (s : Stamp). IsPast w.setup s.time) (sym (stamp_is stamp here)) accept.settled.sent_is)
    ]

    is_stamped : IsStamped (record { call = call; taken = taken })
    is_stamped = (
      stamp_of accept.request accept.part accept.auth,
      record {
        request = accept.request;
        part = accept.part;
        auth = accept.auth;
        opened = opened_by w.setup setup single.entries call.bytes accept.request accept.part accept.auth accept.opened;
        stamp_is = refl;
      },
    )

    old_after : (stamp : Stamp) → IsHeldAmong setup (record { call = call; taken = taken } ∷ w.held) stamp → IsOld (happens w (accepts call taken)) stamp
    old_after stamp (inl here) = inl (inl (record {
      request = accept.request;
      part = accept.part;
      auth = accept.auth;
      opened = accept.opened;
      near = accept.near;
      stamp_is = stamp_is stamp here;
    }))
    old_after stamp (inr among) = elim (single.old stamp among) [ inl shown ↦ inl (inr shown) | inr before ↦ inr before ]

  -- ---- one event after another

  after_event : (w : World) (event : Event) → IsSingle w → Can credential w event → IsSingle (happens w event)
  after_event w (sends s) single can = single
  after_event w (accepts call taken) single can = record {
    entries = single.entries;
    begun = single.begun;
    stamps = (new_stamp w single call taken can, single.stamps);
    stamped = each_more IsStamped (record { call = call; taken = taken }) w.held (is_stamped w single call taken can) single.stamped;
    old = old_after w single call taken can;
    replied = λ r o. inr (single.replied r o);
    one_reply = single.one_reply;
  }
  after_event w (refuses call refusal) single can = record {
    entries = single.entries;
    begun = single.begun;
    stamps = single.stamps;
    stamped = single.stamped;
    old = λ stamp among. elim (single.old stamp among) [
      | inl shown ↦ inl (shown_behind facts w.setup w.history call refusal stamp shown)
      | inr before ↦ inr before
    ];
    replied = single.replied;
    one_reply = single.one_reply;
  }
  after_event w (replies r) single can = record {
    entries = single.entries;
    begun = single.begun;
    stamps = single.stamps;
    stamped = single.stamped;
    old = single.old;
    replied = each_more (λ (q : Replied). IsOf w.held q.held) r w.replied can.0 single.replied;
    one_reply = apart_more (λ (q : Replied). q.held) r w.replied can.1.1.0 single.one_reply;
  }
  after_event w (errs refusal now service bytes) single can = single
  after_event w (ends bytes e) single can = single
  after_event w (restarts start skew) single can = record {
    entries = single.entries;
    begun = λ a o. (start, (refl, of_all (λ (x : Arrival). x.moment ≤ℤ start) (w.history ++ w.earlier) can.0 a o));
    stamps = single.stamps;
    stamped = single.stamped;
    old = λ stamp among. elim (single.old stamp among) [
      | inl shown ↦ inr (wider w.history (w.history ++ w.earlier) w.setup.skew skew stamp can.1 (of_front w.history w.earlier)
          (shown_within w.setup w.history stamp shown))
      | inr before ↦ inr (wider w.earlier (w.history ++ w.earlier) w.setup.skew skew stamp can.1 (of_back w.history w.earlier) before)
    ];
    replied = single.replied;
    one_reply = single.one_reply;
  }

  -- ---- what is held of a stamp, and of a request, is one

  among : (held : List Held) (h : Held) (stamp : Stamp) → IsOf held h → HasStamp setup h.call.bytes stamp → IsHeldAmong setup held stamp
  among [] h stamp o has = absurd o
  among (g ∷ held) h stamp (inl e) has = inl (subst (λ (x : Held). HasStamp setup x.call.bytes stamp) (sym e) has)
  among (g ∷ held) h stamp (inr o) has = inr (among held h stamp o has)

  one_of_stamp : (held : List Held) (g h : Held) (stamp : Stamp) → HoldsOnce setup held → IsOf held g → IsOf held h
      → HasStamp setup g.call.bytes stamp → HasStamp setup h.call.bytes stamp → g ≡ h
  one_of_stamp [] g h stamp once o p one other = absurd o
  one_of_stamp (x ∷ held) g h stamp once (inl e) (inl f) one other = sym e ∙ f
  one_of_stamp (x ∷ held) g h stamp once (inl e) (inr p) one other =
      absurd (once.0 stamp (subst (λ (y : Held). HasStamp setup y.call.bytes stamp) (sym e) one) (among held h stamp p other))
  one_of_stamp (x ∷ held) g h stamp once (inr o) (inl f) one other =
      absurd (once.0 stamp (subst (λ (y : Held). HasStamp setup y.call.bytes stamp) (sym f) other) (among held g stamp o one))
  one_of_stamp (x ∷ held) g h stamp once (inr o) (inr p) one other = one_of_stamp held g h stamp once.1 o p one other

  module _ (w : World) (single : IsSingle w) where
    one_held : (g h : Held) → IsOf w.held g → IsOf w.held h → g.call.bytes ≡ h.call.bytes → g ≡ h
    one_held g h o p same = (let s : (stamp : Stamp) × HasStamp setup g.call.bytes stamp = single.stamped g o in
        one_of_stamp w.held g h s.0 single.stamps o p s.1 (subst (λ (b : List ℕ). HasStamp setup b s.0) same s.1))

    held_once : IsHeldOnce setup w
    held_once = record {
      stamps = single.stamps;
      held = one_held;
      replied = λ q r o p same. single.one_reply q r o p (one_held q.held r.held (single.replied q o) (single.replied r p) same);
    }

  pub in_each_world : (events : List Event) (end : World) → Comes credential (nothing_yet setup) events end → IsHeldOnce setup end
  in_each_world events end c = held_once end (kept credential IsSingle after_event (nothing_yet setup) events end nothing c)
