-- What was shown isn't accepted again.
use Rattle.std.proofs.Common.{◌≡◌, List, [], ◌∷◌, sym, ◌∙◌, subst, inl, inr, Ok, Err, Result}
use Rattle.krb_replay.specs.Stamp.{Stamp}
use Rattle.krb_ap.specs.Setup.{Setup, Arrival}
use Rattle.krb_ap.specs.Opened.{stamp_of}
use Rattle.krb_ap.specs.History.{IsShown}
use Rattle.krb_ap.specs.Taken.{Accept, Taken}
use Rattle.krb_ap.specs.Answer.{Answers, Run, after, after_refusal, taken_of}
use Rattle.krb_ap.specs.Once.{HasStamp, Takes, TakesAmong, TakesOnce}
use Rattle.krb_ap.specs.Inner.Facts.{Facts}
use Rattle.krb_ap.proofs.Afterwards.{memory_or_not, after_named}
use Rattle.krb_ap.proofs.OneOpening.{one_authenticated, same_stamp}
use Rattle.krb_ap.specs.declared.accepted.Accepted.{Accepted}
use Rattle.krb_ap.specs.declared.refusal.Refusal.{Refusal}

module _ (facts : Facts) (setup : Setup) where
  -- what is accepted has one stamp
  pub one_stamp : (history : List Arrival) (call : Arrival) (taken : Taken) (stamp : Stamp) → (a : Accept setup history call taken)
      → HasStamp setup call.bytes stamp → stamp ≡ stamp_of a.request a.part a.auth
  one_stamp history call taken stamp a h =
      h.stamp_is ∙ same_stamp a.request h.request a.part h.part a.auth h.auth
      (one_authenticated facts setup call.bytes a.request h.request a.part h.part a.auth h.auth a.opened.authenticated h.opened.authenticated)

  -- it wasn't shown, and is shown then
  pub unshown : (history : List Arrival) (call : Arrival) (answer : Result Accepted Refusal) (stamp : Stamp) → Answers setup history call answer
      → Takes setup call answer stamp → ¬ IsShown setup history stamp
  unshown history call (Ok x) stamp accept h shown =
      accept.unshown (subst (λ (s : Stamp). IsShown setup history s) (one_stamp history call (taken_of x) stamp accept h) shown)
  unshown history call (Err r) stamp cause h shown = h

  pub shown_then : (history : List Arrival) (call : Arrival) (answer : Result Accepted Refusal) (stamp : Stamp) → Answers setup history call answer
      → Takes setup call answer stamp → IsShown setup (after history call answer) stamp
  shown_then history call (Ok x) stamp accept h = inl (record {
    request = accept.request;
    part = accept.part;
    auth = accept.auth;
    opened = accept.opened;
    near = accept.near;
    stamp_is = one_stamp history call (taken_of x) stamp accept h;
  })
  shown_then history call (Err r) stamp cause h = absurd h

  pub shown_behind : (history : List Arrival) (call : Arrival) (r : Refusal) (stamp : Stamp) → IsShown setup history stamp
      → IsShown setup (after_refusal history call r) stamp
  shown_behind history call r stamp shown = elim (memory_or_not r) [
    | inl memory ↦ subst (λ (s : Refusal). IsShown setup (after_refusal history call s) stamp) (sym memory) shown
    | inr named ↦ subst (λ (h : List Arrival). IsShown setup h stamp) (after_named history call r named) (inr shown)
  ]

  -- what was shown stays so
  pub shown_still : (history : List Arrival) (call : Arrival) (answer : Result Accepted Refusal) (stamp : Stamp) → IsShown setup history stamp
      → IsShown setup (after history call answer) stamp
  shown_still history call (Ok x) stamp shown = inr shown
  shown_still history call (Err r) stamp shown = shown_behind history call r stamp shown

  -- what was shown isn't accepted
  pub not_again : (history : List Arrival) (calls : List Arrival) (answers : List (Result Accepted Refusal)) (end : List Arrival) (stamp : Stamp)
      → Run setup history calls answers end → IsShown setup history stamp → ¬ TakesAmong setup calls answers stamp
  not_again history [] [] end stamp run shown among = among
  not_again history [] (answer ∷ answers) end stamp run shown among = among
  not_again history (call ∷ calls) [] end stamp run shown among = among
  not_again history (call ∷ calls) (answer ∷ answers) end stamp run shown (inl here) = unshown history call answer stamp run.0 here shown
  not_again history (call ∷ calls) (answer ∷ answers) end stamp run shown (inr later) =
      not_again (after history call answer) calls answers end stamp run.1 (shown_still history call answer stamp shown) later

  pub once : (history : List Arrival) (calls : List Arrival) (answers : List (Result Accepted Refusal)) (end : List Arrival)
      → Run setup history calls answers end → TakesOnce setup calls answers
  once history [] [] end run = tt
  once history [] (answer ∷ answers) end run = tt
  once history (call ∷ calls) [] end run = tt
  once history (call ∷ calls) (answer ∷ answers) end run = (
    λ stamp here. not_again (after history call answer) calls answers end stamp run.1 (shown_then history call answer stamp run.0 here),
    once (after history call answer) calls answers end run.1,
  )
