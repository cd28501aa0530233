-- A service: what it decides by, and its memory of seen requests; what it stands for, and what its
-- limits do. A memory is read by four words: which stamps it has, its latest moment, its limits, and
-- how many requests it refused for each of them.
use Rattle.std.specs.Prelude.{◌≡◌, ◌-ℤ◌, ◌⊎◌, ℕ, ℤ, pos, List, Option}
use Rattle.krb_replay.specs.Limit.{CountsFirst, IsPastAny, Limits}
use Rattle.krb_replay.specs.Memory.{SameStamps}
use Rattle.krb_replay.specs.Stamp.{Stamp}
use Rattle.krb_ap.specs.Setup.{Setup, Arrival}
use Rattle.krb_ap.specs.History.{Shows, StandsFor, effective}

pub record Service (M : Type 0) : Type 0 where
  pub setup : Setup
  pub memory : M

-- the service stands for a history: its memory does
abbrev pub Stands : {M : Type 0} → (M → Stamp → Type 0) → (M → Option ℤ) → Service M → List Arrival → Type 0
Stands has newest service history = StandsFor service.setup (has service.memory) (newest service.memory) history

-- both memories have the same stamps and the same latest moment
abbrev pub SameMemory : {M : Type 0} → (M → Stamp → Type 0) → (M → Option ℤ) → M → M → Type 0
SameMemory has newest old new = SameStamps (has old) (has new) × (newest new ≡ newest old)

-- a stamp is past a limit of a memory, if the moment that counts is now: the memory hasn't it yet,
-- and has so many that are recent
abbrev pub IsPastLimit : (Stamp → Type 0) → List Limits → Setup → ℤ → Stamp → Type 0
IsPastLimit Has limits setup now stamp = IsPastAny Has (now -ℤ pos setup.skew) stamp limits

-- the first limit that it reaches counts that, and no other: the counts before and after
abbrev pub CountsPastLimit : (Stamp → Type 0) → List Limits → List ℕ → List ℕ → Setup → ℤ → Stamp → Type 0
CountsPastLimit Has limits old new setup now stamp = CountsFirst Has (now -ℤ pos setup.skew) stamp limits old new

-- a request shows a stamp that is past a limit
abbrev pub ShowsPastLimit : (Stamp → Type 0) → List Limits → Setup → List Arrival → Arrival → Stamp → Type 0
ShowsPastLimit Has limits setup history call stamp =
    Shows setup (effective history call.moment) call.bytes stamp × IsPastLimit Has limits setup (effective history call.moment) stamp

-- What a call does by the limits of its memory, after a history that the memory stands for: which
-- stamps the memory has before, its limits, its counts of what was refused for each of them before
-- and after, and whether the answer is out of memory. A request that is past a limit is answered so.
-- Either the counts stay, or the request is past a limit and answered so, and the first limit that
-- it reaches counts that.
pub record HeedsLimits (Has : Stamp → Type 0) (limits : List Limits) (old new : List ℕ) (setup : Setup) (history : List Arrival) (call : Arrival)
    (IsLacking : Type 0) : Type 0 where
  pub full : (stamp : Stamp) → ShowsPastLimit Has limits setup history call stamp → IsLacking
  pub counted : (new ≡ old) ⊎ ((stamp : Stamp) × (IsLacking × (ShowsPastLimit Has limits setup history call stamp
      × CountsPastLimit Has limits old new setup (effective history call.moment) stamp)))
