-- Memories of seen requests: a set of stamps, and the latest moment that the memory was given.
-- Moments and times are microseconds since 1970-01-01T00:00:00Z. A skew is a number of
-- microseconds.
use Rattle.std.specs.Prelude.{◌≡◌, ◌+◌, ◌^◌, ◌≤◌, ℕ, ℤ, pos, neg_ℤ, ◌-ℤ◌, ◌≤ℤ◌, ◌↔◌, ◌⊎◌, ◌≢◌, int_lt, if◌then◌else◌, Option, Some, None, List, [], length, AllPairs, Contains}
use Rattle.krb_replay.specs.Stamp.{Stamp}

-- A memory: what it holds, each stamp once and in any order; the latest moment, if it was given any;
-- how many more stamps take room: they are dropped, and not freed yet; and the moment before which
-- stamps are dropped.
pub record Memory : Type 0 where
  pub stamps : List Stamp
  pub latest : Option ℤ
  pub unfreed : ℕ
  pub oldest : ℤ

-- a memory that was given nothing
abbrev pub empty_memory : Memory
empty_memory = record { stamps = []; latest = None; unfreed = 0; oldest = neg_ℤ (pos (2 ^ 63)) }

-- how many stamps take room
abbrev pub held_of : Memory → ℕ
held_of memory = length memory.stamps + memory.unfreed

-- nothing is left to free, or at least so many fewer
abbrev pub FreesSome : ℕ → ℕ → ℕ → Type 0
FreesSome some old new = (new ≡ 0) ⊎ (new + some ≤ old)

-- the later of the latest moment so far, if any, and a new moment
abbrev pub later_of : Option ℤ → ℤ → ℤ
later_of None moment = moment
later_of (Some latest) moment = if int_lt latest moment then moment else latest

-- the earlier of two moments
abbrev pub earlier_of : ℤ → ℤ → ℤ
earlier_of one other = if int_lt other one then other else one

-- the stamp's time isn't before the latest moment less the skew; the difference may lie before the
-- year 0
abbrev pub IsRecent : ℤ → ℕ → Stamp → Type 0
IsRecent latest skew stamp = (latest -ℤ pos skew) ≤ℤ stamp.time

abbrev pub HasNone : (Stamp → Type 0) → Type 0
HasNone has = (stamp : Stamp) → ¬ has stamp

-- the two sets have the same stamps
abbrev pub SameStamps : (Stamp → Type 0) → (Stamp → Type 0) → Type 0
SameStamps old new = (stamp : Stamp) → new stamp ↔ old stamp

-- one set has the stamps of another and one more, and no others
abbrev pub AddsStamp : (Stamp → Type 0) → (Stamp → Type 0) → Stamp → Type 0
AddsStamp old new added = (stamp : Stamp) → new stamp ↔ ((stamp ≡ added) ⊎ old stamp)

-- a set has so many stamps: some list has each of its stamps once and nothing else, and has that
-- length
pub record IsSizeOf (has : Stamp → Type 0) (size : ℕ) : Type 0 where
  pub stamps : List Stamp
  pub once : AllPairs (λ one other. one ≢ other) stamps
  pub members : (stamp : Stamp) → Contains stamps stamp ↔ has stamp
  pub size_is : length stamps ≡ size
