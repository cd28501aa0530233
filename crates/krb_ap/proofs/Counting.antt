-- What the limits of a memory do in a list of calls.
use Rattle.std.proofs.Common.{◌≡◌, inl, inr, ℕ, suc, ℤ, pos, ◌+◌, ◌-ℤ◌, Bool, List, [], ◌∷◌, ◌++◌, Option, Result, refl, sym, subst, length, arith}
use Rattle.std.specs.Prelude.{◌↔◌, ◌≤ℤ◌, IsErrOf}
use Rattle.krb_replay.specs.Limit.{Limits}
use Rattle.krb_replay.specs.Stamp.{Stamp}
use Rattle.krb_ap.specs.Setup.{Setup, Arrival}
use Rattle.krb_ap.specs.History.{IsShown, StandsFor, effective, greatest}
use Rattle.krb_ap.specs.Answer.{Run, Served, after}
use Rattle.krb_ap.specs.Service.{HeedsLimits, ShowsPastLimit}
use Rattle.krb_ap.specs.Counting.{HeedsLimitsInAll, OneOf}
use Rattle.krb_ap.specs.Inner.Facts.{Facts}
use Rattle.krb_ap.specs.Times.{Near}
use Rattle.krb_ap.specs.declared.accepted.Accepted.{Accepted}
use Rattle.krb_ap.specs.declared.refusal.Refusal.{Refusal}
use Rattle.krb_ap.specs.declared.refusal.Refusal.TheVariants.{OutOfMemory}
use Rattle.krb_ap.proofs.Decided.{head_of, tail_of}
use Rattle.krb_ap.proofs.Limits.{counts_first, is_past, not_counted}
use Rattle.krb_ap.proofs.Standing.{recent_before}
use Rattle.krb_ap.proofs.TurnedAway.{near_is_recent}

-- what was shown counts, and the memory has what of it is recent
module _ (Has : Stamp → Type 0) (limits : List Limits) (old new : List ℕ) (latest : Option ℤ) (setup : Setup) (history : List Arrival) (call : Arrival)
    (IsLacking : Type 0) (stands : StandsFor setup Has latest history) where
  abbrev oldest : ℤ
  oldest = effective history call.moment -ℤ pos setup.skew

  same : (stamp : Stamp) → oldest ≤ℤ stamp.time → (Has stamp ↔ IsShown setup history stamp)
  same stamp later = (stands.only stamp, λ shown. stands.all stamp shown (recent_before setup history call.moment stamp later))

  turned : (stamp : Stamp) → oldest ≤ℤ stamp.time → (IsShown setup history stamp ↔ Has stamp)
  turned stamp later = ((same stamp later).1, (same stamp later).0)

  shows_past : (stamp : Stamp) → ShowsPastLimit Has limits setup history call stamp → ShowsPastLimit (IsShown setup history) limits setup history call stamp
  shows_past stamp past = (
    past.0,
    is_past oldest Has (IsShown setup history) stamp limits same
        (λ shown. stands.all stamp shown (near_is_recent setup history call.moment stamp
        (subst (λ (s : Stamp). Near s.time (effective history call.moment) setup.skew) (sym past.0.stamp_is) past.0.near))) past.1,
  )

  pub heeds_shown : HeedsLimits Has limits old new setup history call IsLacking → HeedsLimits (IsShown setup history) limits old new setup history call IsLacking
  heeds_shown heeds = record {
    full = λ stamp past. heeds.full stamp (past.0, is_past oldest (IsShown setup history) Has stamp limits turned (stands.only stamp) past.1);
    counted = elim heeds.counted [
      | inl e ↦ inl e
      | inr h ↦ inr (h.0, (h.1.0, (shows_past h.0 h.1.1.0, counts_first oldest Has (IsShown setup history) h.0 same limits old new h.1.1.1)))
    ];
  }

-- ---- one call after another

-- each call heeds the limits, and its counts are those before the next
abbrev pub HeedsInTurn : List Limits → Setup → List Arrival → List Arrival → List (Result Accepted Refusal) → List ℕ → List ℕ → Type 0
HeedsInTurn limits setup history [] [] old new = new ≡ old
HeedsInTurn limits setup history (call ∷ calls) (answer ∷ answers) old new = (mid : List ℕ)
    × (HeedsLimits (IsShown setup history) limits old mid setup history call (IsErrOf answer OutOfMemory)
    × HeedsInTurn limits setup (after history call answer) calls answers mid new)
HeedsInTurn limits setup history _ _ old new = ⊥

push : (limits : List Limits) (setup : Setup) (history calls : List Arrival) (answers : List (Result Accepted Refusal)) (end : List Arrival) (old mid new : List ℕ)
    (call : Arrival) (answer : Result Accepted Refusal) → Run setup history calls answers end → HeedsInTurn limits setup history calls answers old mid
    → HeedsLimits (IsShown setup end) limits mid new setup end call (IsErrOf answer OutOfMemory)
    → HeedsInTurn limits setup history (calls ++ call ∷ []) (answers ++ answer ∷ []) old new
push limits setup history [] [] end old mid new call answer run turn heeds = (
  new,
  (
    subst (λ (l : List ℕ). HeedsLimits (IsShown setup history) limits l new setup history call (IsErrOf answer OutOfMemory)) turn
        (subst (λ (h : List Arrival). HeedsLimits (IsShown setup h) limits mid new setup h call (IsErrOf answer OutOfMemory)) run heeds),
    refl,
  ),
)
push limits setup history (c ∷ cs) (a ∷ rest) end old mid new call answer run turn heeds =
    (turn.0, (turn.1.0, push limits setup (after history c a) cs rest end turn.0 mid new call answer run.1 turn.1.1 heeds))
push limits setup history [] (a ∷ rest) end old mid new call answer run turn heeds = absurd run
push limits setup history (c ∷ cs) [] end old mid new call answer run turn heeds = absurd run

-- one call more
pub heeds_more : (keeping forgetting : Bool) (setup here : Setup) (history calls : List Arrival) (answers all : List (Result Accepted Refusal)) (whole : List Arrival)
    (First Has : Stamp → Type 0) (latest : Option ℤ) (limits has_limits : List Limits) (old mid new : List ℕ) (call : Arrival) (answer : Result Accepted Refusal)
    → here ≡ setup → has_limits ≡ limits → calls ++ call ∷ [] ≡ whole → all ≡ answers ++ answer ∷ []
    → ((end : List Arrival) → StandsFor here Has latest end → HeedsLimits Has has_limits mid new here end call (IsErrOf answer OutOfMemory))
    → Served keeping forgetting setup history calls answers First Has latest → HeedsInTurn limits setup history calls answers old mid
    → HeedsInTurn limits setup history whole all old new
heeds_more keeping forgetting setup here history calls answers all whole First Has latest limits has_limits old mid new call answer is_here is_limits is_whole is_all heeds served turn =
    let stands : StandsFor here Has latest served.end = subst (λ (s : Setup). StandsFor s Has latest served.end) (sym is_here) served.stands in
    let one : HeedsLimits Has limits mid new setup served.end call (IsErrOf answer OutOfMemory) =
    subst (λ (s : Setup). HeedsLimits Has limits mid new s served.end call (IsErrOf answer OutOfMemory)) is_here
    (subst (λ (l : List Limits). HeedsLimits Has l mid new here served.end call (IsErrOf answer OutOfMemory)) is_limits (heeds served.end stands)) in
    subst (λ (l : List (Result Accepted Refusal)). HeedsInTurn limits setup history whole l old new) (sym is_all)
    (subst (λ (l : List Arrival). HeedsInTurn limits setup history l (answers ++ answer ∷ []) old new) is_whole
    (push limits setup history calls answers served.end old mid new call answer served.run turn
    (heeds_shown Has limits mid new latest setup served.end call (IsErrOf answer OutOfMemory) served.stands one)))

-- ---- for each place

-- the counts before the call at a place
abbrev counts_at : (limits : List Limits) (setup : Setup) (history calls : List Arrival) (answers : List (Result Accepted Refusal)) (old new : List ℕ)
    → HeedsInTurn limits setup history calls answers old new → ℕ → List ℕ
counts_at limits setup history (c ∷ cs) (a ∷ rest) old new turn (suc place) = counts_at limits setup (after history c a) cs rest turn.0 new turn.1.1 place
counts_at limits setup history calls answers old new turn _ = old

first_is : (limits : List Limits) (setup : Setup) (history calls : List Arrival) (answers : List (Result Accepted Refusal)) (old new : List ℕ)
    (turn : HeedsInTurn limits setup history calls answers old new) → counts_at limits setup history calls answers old new turn 0 ≡ old
first_is limits setup history [] [] old new turn = refl
first_is limits setup history [] (a ∷ rest) old new turn = refl
first_is limits setup history (c ∷ cs) [] old new turn = refl
first_is limits setup history (c ∷ cs) (a ∷ rest) old new turn = refl

last_is : (limits : List Limits) (setup : Setup) (history calls : List Arrival) (answers : List (Result Accepted Refusal)) (old new : List ℕ)
    (turn : HeedsInTurn limits setup history calls answers old new) → counts_at limits setup history calls answers old new turn (length calls) ≡ new
last_is limits setup history [] [] old new turn = sym turn
last_is limits setup history [] (a ∷ rest) old new turn = absurd turn
last_is limits setup history (c ∷ cs) [] old new turn = absurd turn
last_is limits setup history (c ∷ cs) (a ∷ rest) old new turn = last_is limits setup (after history c a) cs rest turn.0 new turn.1.1

heeds_at : (limits : List Limits) (setup : Setup) (history calls : List Arrival) (answers : List (Result Accepted Refusal)) (old new : List ℕ)
    (turn : HeedsInTurn limits setup history calls answers old new) (before : List Arrival) (call : Arrival) (later : List Arrival)
    (answered : List (Result Accepted Refusal)) (answer : Result Accepted Refusal) (others : List (Result Accepted Refusal)) (here : List Arrival)
    → calls ≡ before ++ call ∷ later → answers ≡ answered ++ answer ∷ others → Run setup history before answered here
    → HeedsLimits (IsShown setup here) limits (counts_at limits setup history calls answers old new turn (length before))
    (counts_at limits setup history calls answers old new turn (suc (length before))) setup here call (IsErrOf answer OutOfMemory)
heeds_at limits setup history (c ∷ cs) (a ∷ rest) old new turn [] call later [] answer others here is_calls is_answers run =
    let next : List ℕ = counts_at limits setup (after history c a) cs rest turn.0 new turn.1.1 0 in
    subst (λ (h : List Arrival). HeedsLimits (IsShown setup h) limits old next setup h call (IsErrOf answer OutOfMemory)) (sym run)
    (subst (λ (x : Result Accepted Refusal). HeedsLimits (IsShown setup history) limits old next setup history call (IsErrOf x OutOfMemory)) (head_of a answer rest others is_answers)
    (subst (λ (x : Arrival). HeedsLimits (IsShown setup history) limits old next setup history x (IsErrOf a OutOfMemory)) (head_of c call cs later is_calls)
    (subst (λ (l : List ℕ). HeedsLimits (IsShown setup history) limits old l setup history c (IsErrOf a OutOfMemory))
    (sym (first_is limits setup (after history c a) cs rest turn.0 new turn.1.1)) turn.1.0)))
heeds_at limits setup history (c ∷ cs) (a ∷ rest) old new turn (b ∷ before) call later (d ∷ answered) answer others here is_calls is_answers run =
    heeds_at limits setup (after history c a) cs rest turn.0 new turn.1.1 before call later answered answer others here
    (tail_of c b cs (before ++ call ∷ later) is_calls) (tail_of a d rest (answered ++ answer ∷ others) is_answers)
    (subst (λ (x : Result Accepted Refusal). Run setup (after history c x) before answered here) (sym (head_of a d rest (answered ++ answer ∷ others) is_answers))
    (subst (λ (x : Arrival). Run setup (after history x d) before answered here) (sym (head_of c b cs (before ++ call ∷ later) is_calls)) run.1))
heeds_at limits setup history calls answers old new turn [] call later (d ∷ answered) answer others here is_calls is_answers run = absurd run
heeds_at limits setup history calls answers old new turn (b ∷ before) call later [] answer others here is_calls is_answers run = absurd run
heeds_at limits setup history [] answers old new turn [] call later [] answer others here is_calls is_answers run = absurd (cc)
heeds_at limits setup history (c ∷ cs) [] old new turn [] call later [] answer others here is_calls is_answers run = absurd (cc)
heeds_at limits setup history [] answers old new turn (b ∷ before) call later (d ∷ answered) answer others here is_calls is_answers run = absurd (cc)
heeds_at limits setup history (c ∷ cs) [] old new turn (b ∷ before) call later (d ∷ answered) answer others here is_calls is_answers run = absurd (cc)

next_place : (place : ℕ) → suc place ≡ place + 1
next_place place = omega (arith)

-- so the whole list does
pub heeds_in_all : Facts → (limits : List Limits) (setup : Setup) (history calls : List Arrival) (answers : List (Result Accepted Refusal)) (old new : List ℕ)
    → HeedsInTurn limits setup history calls answers old new → HeedsLimitsInAll limits old new setup history calls answers
heeds_in_all facts limits setup history calls answers old new turn = record {
  counts = counts_at limits setup history calls answers old new turn;
  first = first_is limits setup history calls answers old new turn;
  last = last_is limits setup history calls answers old new turn;
  heeds = heeds;
  uncounted = λ one cause holds early. not_counted facts (IsShown setup one.history_before) limits _ _ (greatest one.history_before) setup one.history_before one.call cause
      (IsErrOf one.answer OutOfMemory) (record { latest_is = refl; only = λ stamp shown. shown; all = λ stamp shown recent. shown }) (heeds one) holds early;
}
  where
    heeds : (one : OneOf setup history calls answers) → HeedsLimits (IsShown setup one.history_before) limits
        (counts_at limits setup history calls answers old new turn (length one.before))
        (counts_at limits setup history calls answers old new turn (length one.before + 1)) setup one.history_before one.call (IsErrOf one.answer OutOfMemory)
    heeds one = subst (λ (place : ℕ). HeedsLimits (IsShown setup one.history_before) limits (counts_at limits setup history calls answers old new turn (length one.before))
        (counts_at limits setup history calls answers old new turn place) setup one.history_before one.call (IsErrOf one.answer OutOfMemory)) (next_place (length one.before))
        (heeds_at limits setup history calls answers old new turn one.before one.call one.later one.answers_before one.answer one.answers_after one.history_before
        one.calls_are one.answers_are one.run)
