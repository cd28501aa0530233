-- What a call does to the memory, as words of private contracts.
use Rattle.std.specs.Prelude.{◌≡◌, ◌⊎◌, ℕ, ℤ, Bool, IsTrue, List, Option}
use Rattle.krb_replay.specs.Limit.{Limits}
use Rattle.krb_replay.specs.Stamp.{Stamp}
use Rattle.krb_replay.specs.Memory.{SameStamps}
use Rattle.krb_ap.specs.Setup.{Setup, Arrival}
use Rattle.krb_ap.specs.History.{IsShown, IsStillRecent, StandsFor}
use Rattle.krb_ap.specs.Service.{CountsPastLimit, IsPastLimit}

pub record GoesOn (keeping forgetting : Bool) (setup other : Setup) (history next : List Arrival) (Old New : Stamp → Type 0) (latest : Option ℤ)
    (IsMemory : Type 0) : Type 0 where
  pub stands : StandsFor other New latest next
  pub keeps : IsTrue keeping → SameStamps (IsShown setup history) Old → SameStamps (IsShown setup next) New
  pub forgets : IsTrue forgetting → (IsMemory → ⊥) → (stamp : Stamp) → New stamp → IsStillRecent setup next stamp

-- What the memory does by its limits with a stamp that is to be remembered, if the moment that counts is now. One that is past a
-- limit is refused, and the first limit that it reaches counts that. Nothing else is counted.
pub record HeedsLimitsFor (Has : Stamp → Type 0) (limits : List Limits) (old new : List ℕ) (setup : Setup) (now : ℤ) (stamp : Stamp)
    (IsRefused : Type 0) : Type 0 where
  pub full : IsPastLimit Has limits setup now stamp → IsRefused × CountsPastLimit Has limits old new setup now stamp
  pub counted : (new ≡ old) ⊎ (IsRefused × (IsPastLimit Has limits setup now stamp × CountsPastLimit Has limits old new setup now stamp))
