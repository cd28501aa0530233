-- A store that several services share lets no stamp in twice, and lets a new one in.
use Rattle.std.proofs.Common.{◌≡◌, ℕ, ℤ, pos, ◌+ℤ◌, ◌*◌, ◌≤◌, List, [], ◌∷◌, sym, ◌∙◌, ap, subst, inl, inr, ◌⊎◌, arith}
use Rattle.std.specs.Prelude.{◌≤ℤ◌, ◌<ℤ◌}
use Rattle.std.proofs.lemmas.Int.{ints}
use Rattle.krb_replay.specs.Keeping.{kept_until}
use Rattle.krb_replay.specs.Stamp.{Stamp}
use Rattle.krb_ap.specs.Setup.{Setup, Arrival}
use Rattle.krb_ap.specs.History.{effective}
use Rattle.krb_ap.specs.Taken.{Accept, Taken, taken_stamp}
use Rattle.krb_ap.specs.Once.{HasStamp}
use Rattle.krb_ap.specs.Sharing.{Asked, ClocksAgree, AskedAmong, Has, InTime, IsAnswered, LetsIn, LetsInAmong, LetsInOnce, MayForget, MayHappen, Outcome, Share, StoreEvent, asked_stamp, asks, forgets}
use Rattle.krb_ap.specs.World.{IsOf}
use Rattle.krb_ap.specs.Inner.Facts.{Facts}
use Rattle.krb_ap.proofs.Once.{one_stamp}

-- what is accepted has the stamp of what is known of it, and no other
pub has_its_stamp : (setup : Setup) (history : List Arrival) (call : Arrival) (taken : Taken) → Accept setup history call taken
    → HasStamp setup call.bytes (taken_stamp taken)
has_its_stamp setup history call taken a = record {
  request = a.request;
  part = a.part;
  auth = a.auth;
  opened = a.opened;
  stamp_is = ap taken_stamp a.taken_is.told;
}

pub has_no_other : Facts → (setup : Setup) (history : List Arrival) (call : Arrival) (taken : Taken) (stamp : Stamp) → Accept setup history call taken
    → HasStamp setup call.bytes stamp → stamp ≡ taken_stamp taken
has_no_other facts setup history call taken stamp a has = one_stamp facts setup history call taken stamp a has ∙ sym (ap taken_stamp a.taken_is.told)

-- ---- what was forgotten isn't accepted

too_late : (time shows at : ℤ) (own skew : ℕ) → own ≤ skew → shows ≤ℤ (time +ℤ pos own) → at ≤ℤ (shows +ℤ pos skew)
    → (time +ℤ pos (2 * skew)) <ℤ at → ⊥
too_late time shows at own skew le near ahead past = omega (arith, ints)

-- a service accepts a request until the moment that counts is later than the request's by more than
-- the skew
accepted_until : (setup : Setup) (history : List Arrival) (call : Arrival) (taken : Taken) → Accept setup history call taken
    → effective history call.moment ≤ℤ ((taken_stamp taken).time +ℤ pos setup.skew)
accepted_until setup history call taken a =
    subst (λ (s : Stamp). effective history call.moment ≤ℤ (s.time +ℤ pos setup.skew)) (sym (ap taken_stamp a.taken_is.told)) a.near.not_before

late_for : (skew : ℕ) (asked : Asked) (shows at : ℤ) → kept_until (asked_stamp asked) skew <ℤ at → ClocksAgree skew asked shows at → ¬ InTime asked shows
late_for skew asked shows at past agree in_time =
    too_late (asked_stamp asked).time shows at asked.setup.skew skew agree.skew_is in_time agree.clock_is past

module _ (skew : ℕ) (store : List Stamp) where
  -- what was forgotten was past its time
  was_past : (events : List StoreEvent) (stamp : Stamp) (at : ℤ) → Share skew store events → IsOf events (forgets stamp at) → kept_until stamp skew <ℤ at
  was_past [] stamp at share of_events = absurd of_events
  was_past (event ∷ events) stamp at share (inl e) =
      (subst (λ (x : StoreEvent). MayHappen skew store events x) e share.0).past
  was_past (event ∷ events) stamp at share (inr o) = was_past events stamp at share.1 o

  pub forgotten_is_late : (events : List StoreEvent) (asked : Asked) (shows at : ℤ) → Share skew store events → IsOf events (forgets (asked_stamp asked) at)
      → ClocksAgree skew asked shows at → ¬ InTime asked shows
  forgotten_is_late events asked shows at share of_events agree = late_for skew asked shows at (was_past events (asked_stamp asked) at share of_events) agree

  pub forgotten_is_refused : (events : List StoreEvent) (asked : Asked) (at : ℤ) → Share skew store events → IsOf events (forgets (asked_stamp asked) at)
      → ClocksAgree skew asked (effective asked.history asked.call.moment) at → ¬ Accept asked.setup asked.history asked.call asked.taken
  forgotten_is_refused events asked at share of_events agree accept =
      forgotten_is_late events asked (effective asked.history asked.call.moment) at share of_events agree
      (accepted_until asked.setup asked.history asked.call asked.taken accept)

module _ (facts : Facts) (skew : ℕ) (store : List Stamp) where
  its_stamp : (asked : Asked) (outcome : Outcome) (stamp : Stamp) → Accept asked.setup asked.history asked.call asked.taken
      → LetsIn (asks asked outcome) stamp → stamp ≡ asked_stamp asked
  its_stamp asked outcome stamp accept here = has_no_other facts asked.setup asked.history asked.call asked.taken stamp accept here.1

  -- ---- no stamp is let in twice

  -- the store has what was let in, and what it had at first, unless it has forgotten it
  kept : (events : List StoreEvent) (stamp : Stamp) → Share skew store events → IsOf store stamp ⊎ LetsInAmong events stamp
      → ¬ Has store events stamp → ((at : ℤ) → ¬ IsOf events (forgets stamp at)) → ⊥
  kept [] stamp share (inl had) lacks never = lacks had
  kept [] stamp share (inr among) lacks never = among
  kept (asks asked outcome ∷ events) stamp share (inl had) lacks never =
      kept events stamp share.1 (inl had) (λ has. lacks (inr has)) (λ at o. never at (inr o))
  kept (asks asked outcome ∷ events) stamp share (inr (inl here)) lacks never = lacks (inl (sym (its_stamp asked outcome stamp share.0.accepted here)))
  kept (asks asked outcome ∷ events) stamp share (inr (inr among)) lacks never =
      kept events stamp share.1 (inr among) (λ has. lacks (inr has)) (λ at o. never at (inr o))
  kept (forgets other when ∷ events) stamp share (inl had) lacks never = kept events stamp share.1 (inl had)
      (λ has. lacks (λ same. never when (inl (ap (λ (s : Stamp). forgets s when) same)), has)) (λ at o. never at (inr o))
  kept (forgets other when ∷ events) stamp share (inr (inl here)) lacks never = here
  kept (forgets other when ∷ events) stamp share (inr (inr among)) lacks never = kept events stamp share.1 (inr among)
      (λ has. lacks (λ same. never when (inl (ap (λ (s : Stamp). forgets s when) same)), has)) (λ at o. never at (inr o))

  -- so it can't be new again
  not_new : (events : List StoreEvent) (asked : Asked) (outcome : Outcome) (stamp : Stamp) → Share skew store events → IsAnswered skew store events asked outcome
      → LetsIn (asks asked outcome) stamp → ¬ (IsOf store stamp ⊎ LetsInAmong events stamp)
  not_new events asked outcome stamp share answered here before =
      let same : stamp ≡ asked_stamp asked = its_stamp asked outcome stamp answered.accepted here in
      kept events (asked_stamp asked) share (subst (λ (s : Stamp). IsOf store s ⊎ LetsInAmong events s) same before)
      (answered.answer.0 here.0.0)
      (λ at o. forgotten_is_late skew store events asked outcome.looked at share o (answered.clocks at o) here.0.1)

  pub not_again : (events : List StoreEvent) (stamp : Stamp) → Share skew store events → IsOf store stamp → ¬ LetsInAmong events stamp
  not_again [] stamp share had among = among
  not_again (asks asked outcome ∷ events) stamp share had (inl here) = not_new events asked outcome stamp share.1 share.0 here (inl had)
  not_again (asks asked outcome ∷ events) stamp share had (inr among) = not_again events stamp share.1 had among
  not_again (forgets other at ∷ events) stamp share had (inl here) = here
  not_again (forgets other at ∷ events) stamp share had (inr among) = not_again events stamp share.1 had among

  pub once : (events : List StoreEvent) → Share skew store events → LetsInOnce events
  once [] share = tt
  once (asks asked outcome ∷ events) share = (
    λ stamp here among. not_new events asked outcome stamp share.1 share.0 here (inr among),
    once events share.1,
  )
  once (forgets other at ∷ events) share = (λ stamp here. absurd here, once events share.1)

  -- ---- a new stamp is let in

  -- the store has only what it had at first, and what services asked for
  pub lacked : (events : List StoreEvent) (stamp : Stamp) → Share skew store events → ¬ IsOf store stamp → ¬ AskedAmong events stamp
      → ¬ Has store events stamp
  lacked [] stamp share absent unasked has = absent has
  lacked (asks asked outcome ∷ events) stamp share absent unasked (inl e) = unasked (inl (
      subst (λ (s : Stamp). HasStamp asked.setup asked.call.bytes s) e (has_its_stamp asked.setup asked.history asked.call asked.taken share.0.accepted)))
  lacked (asks asked outcome ∷ events) stamp share absent unasked (inr has) = lacked events stamp share.1 absent (λ among. unasked (inr among)) has
  lacked (forgets other at ∷ events) stamp share absent unasked has = lacked events stamp share.1 absent (λ among. unasked (inr among)) has.1

  -- so it has never forgotten it
  pub never_forgotten : (events : List StoreEvent) (stamp : Stamp) (at : ℤ) → Share skew store events → ¬ IsOf store stamp → ¬ AskedAmong events stamp
      → ¬ IsOf events (forgets stamp at)
  never_forgotten [] stamp at share absent unasked o = o
  never_forgotten (event ∷ events) stamp at share absent unasked (inl e) =
      let forgot : MayForget skew store events stamp at = subst (λ (x : StoreEvent). MayHappen skew store events x) e share.0 in
      lacked events stamp share.1 absent (λ among. unasked (inr among)) forgot.had
  never_forgotten (event ∷ events) stamp at share absent unasked (inr o) = never_forgotten events stamp at share.1 absent (λ among. unasked (inr among)) o
