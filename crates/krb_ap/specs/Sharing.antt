-- Services that share one store of stamps, as instances of one service on several machines. A
-- request is let in if a service accepts it, the store says that its stamp is new, and the service's
-- clock then shows that it isn't too late. Nothing is asked of what a service has seen: it may be
-- started again, lose its memory, or have another keytab. What the store must do, and how far clocks
-- may differ, is said here. Moments are microseconds.
use Rattle.std.specs.Prelude.{◌≡◌, ◌≢◌, ◌⊎◌, ◌↔◌, ◌≤◌, ◌<ℤ◌, ◌≤ℤ◌, ◌+ℤ◌, ℕ, ℤ, pos, Bool, true, IsTrue, List, [], ◌∷◌}
use Rattle.krb_replay.specs.Keeping.{kept_until}
use Rattle.krb_replay.specs.Stamp.{Stamp}
use Rattle.krb_ap.specs.Setup.{Setup, Arrival}
use Rattle.krb_ap.specs.Taken.{Accept, Taken, taken_stamp}
use Rattle.krb_ap.specs.Once.{HasStamp}
use Rattle.krb_ap.specs.World.{IsOf}

-- ---- what happens at the store

-- a call that some service accepted: what the service then decided by, what it had seen before, and
-- what it knows of the request
pub record Asked : Type 0 where
  pub setup : Setup
  pub history : List Arrival
  pub call : Arrival
  pub taken : Taken

abbrev pub asked_by : Setup → List Arrival → Arrival → Taken → Asked
asked_by setup history call taken = record { setup = setup; history = history; call = call; taken = taken }

abbrev pub asked_stamp : Asked → Stamp
asked_stamp asked = taken_stamp asked.taken

-- what comes of a question: what the store says, and what the service's clock shows after that
pub record Outcome : Type 0 where
  pub is_new : Bool
  pub looked : ℤ

abbrev pub new_at : ℤ → Outcome
new_at looked = record { is_new = true; looked = looked }

-- By this clock, the request could still be accepted. A service refuses it otherwise, whatever the
-- store says.
abbrev pub InTime : Asked → ℤ → Type 0
InTime asked looked = looked ≤ℤ ((asked_stamp asked).time +ℤ pos asked.setup.skew)

-- The store adds the stamp of such a call unless it has it, and says whether it is new, even if the
-- answer is lost on its way. Or it forgets a stamp, at a moment of its own clock. Each is one step.
pub data StoreEvent : Type 0 where
  asks : Asked → Outcome → StoreEvent
  forgets : Stamp → ℤ → StoreEvent

-- After these events, newest first, the store has the stamp: it had it at first or was asked for
-- it, and hasn't forgotten it since.
abbrev pub Has : List Stamp → List StoreEvent → Stamp → Type 0
Has store [] stamp = IsOf store stamp
Has store (asks asked outcome ∷ events) stamp = (asked_stamp asked ≡ stamp) ⊎ Has store events stamp
Has store (forgets other at ∷ events) stamp = (other ≢ stamp) × Has store events stamp

-- ---- what the store promises, and what is asked of the clocks

-- the stamp is new exactly if the store hasn't got it
abbrev pub SaysNew : List Stamp → List StoreEvent → Stamp → Bool → Type 0
SaysNew store events stamp is_new = IsTrue is_new ↔ ¬ Has store events stamp

-- the store forgets only what it has, and not before its clock is past the moment until which the
-- stamp is kept for this skew
pub record MayForget (skew : ℕ) (store : List Stamp) (events : List StoreEvent) (stamp : Stamp) (at : ℤ) : Type 0 where
  pub had : Has store events stamp
  pub past : kept_until stamp skew <ℤ at

-- The service's skew is no larger. The store's clock, at a moment before the question, was ahead of
-- what the service's clock shows by at most the skew. So it counts, too, if clocks were set back in
-- between.
pub record ClocksAgree (skew : ℕ) (asked : Asked) (shows at : ℤ) : Type 0 where
  pub skew_is : asked.setup.skew ≤ skew
  pub clock_is : at ≤ℤ (shows +ℤ pos skew)

-- A service accepts a request and asks, and this is what comes of it. The clocks matter only if the
-- store has forgotten the stamp: they agree, as after the answer, at the moments at which it did.
pub record IsAnswered (skew : ℕ) (store : List Stamp) (events : List StoreEvent) (asked : Asked) (outcome : Outcome) : Type 0 where
  pub accepted : Accept asked.setup asked.history asked.call asked.taken
  pub answer : SaysNew store events (asked_stamp asked) outcome.is_new
  pub clocks : (at : ℤ) → IsOf events (forgets (asked_stamp asked) at) → ClocksAgree skew asked outcome.looked at

abbrev pub MayHappen : ℕ → List Stamp → List StoreEvent → StoreEvent → Type 0
MayHappen skew store events (asks asked outcome) = IsAnswered skew store events asked outcome
MayHappen skew store events (forgets stamp at) = MayForget skew store events stamp at

-- from what the store has at first, one event after another
abbrev pub Share : ℕ → List Stamp → List StoreEvent → Type 0
Share skew store [] = Unit {0}
Share skew store (event ∷ events) = MayHappen skew store events event × Share skew store events

-- ---- who is let in

-- a request of this stamp is let in: the store says that it is new, and it isn't too late then
abbrev pub LetsIn : StoreEvent → Stamp → Type 0
LetsIn (asks asked outcome) stamp = (IsTrue outcome.is_new × InTime asked outcome.looked) × HasStamp asked.setup asked.call.bytes stamp
LetsIn (forgets other at) stamp = ⊥

-- or by one of these
abbrev pub LetsInAmong : List StoreEvent → Stamp → Type 0
LetsInAmong [] stamp = ⊥
LetsInAmong (event ∷ events) stamp = LetsIn event stamp ⊎ LetsInAmong events stamp

-- no stamp is let in twice
abbrev pub LetsInOnce : List StoreEvent → Type 0
LetsInOnce [] = Unit {0}
LetsInOnce (event ∷ events) = ((stamp : Stamp) → LetsIn event stamp → ¬ LetsInAmong events stamp) × LetsInOnce events

-- a service asks for a request of this stamp
abbrev pub AsksForStamp : StoreEvent → Stamp → Type 0
AsksForStamp (asks asked outcome) stamp = HasStamp asked.setup asked.call.bytes stamp
AsksForStamp (forgets other at) stamp = ⊥

-- or did by one of these: it was let in, or its answer was lost, or it was too late
abbrev pub AskedAmong : List StoreEvent → Stamp → Type 0
AskedAmong [] stamp = ⊥
AskedAmong (event ∷ events) stamp = AsksForStamp event stamp ⊎ AskedAmong events stamp

-- the service may ask next, the store says that the stamp is new and can say nothing else, and so a
-- request of this stamp is let in unless it is too late then
pub record IsLetInNext (skew : ℕ) (store : List Stamp) (events : List StoreEvent) (asked : Asked) (stamp : Stamp) : Type 0 where
  pub answered : (looked : ℤ) → MayHappen skew store events (asks asked (new_at looked))
  pub only : (outcome : Outcome) → MayHappen skew store events (asks asked outcome) → IsTrue outcome.is_new
  pub let_in : (looked : ℤ) → InTime asked looked → LetsIn (asks asked (new_at looked)) stamp
