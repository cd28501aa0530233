-- What happens at a store of stamps when a service asks it, in the words of krb_ap's `Sharing`.
use Rattle.std.specs.Prelude.{◌≡◌, ℕ, ℤ, false, IsTrue, List, ◌∷◌}
use Rattle.krb_replay.specs.Stamp.{Stamp}
use Rattle.krb_ap.specs.Answer.{taken_of}
use Rattle.krb_ap.specs.Setup.{arrival}
use Rattle.krb_ap.specs.Sharing.{Asked as Question, ClocksAgree, InTime, LetsIn, Outcome, SaysNew, StoreEvent, asked_by, asked_stamp, asks, forgets, new_at}
use Rattle.krb_ap.specs.World.{IsOf}
use Rattle.krb_login.specs.Login.{Call}
use Rattle.krb_login.specs.Store.{IsWaiting}
use Rattle.krb_login.specs.Waiting.{Waiting}
use Rattle.krb_login.specs.declared.store.StoreSays.{StoreSays}
use Rattle.krb_login.specs.declared.store.StoreSays.TheVariants.{New, Known, Failed}

-- the question of a service
abbrev pub question_of : (call : Call) (waiting : Waiting) → IsWaiting call waiting → Question
question_of call waiting is = asked_by call.setup call.history (arrival is.request call.now) (taken_of is.known)

abbrev pub known_at : ℤ → Outcome
known_at looked = record { is_new = false; looked = looked }

-- What the service knows of the outcome, when its clock shows a moment. If the store failed, its answer is lost. Whatever it was, it
-- lets nobody in.
abbrev pub IsKnownOf : Question → StoreSays → ℤ → Outcome → Type 0
IsKnownOf question New looked outcome = outcome ≡ new_at looked
IsKnownOf question Known looked outcome = outcome ≡ known_at looked
IsKnownOf question Failed looked outcome = IsTrue outcome.is_new → InTime question outcome.looked → ⊥

-- The events at the store, newest first: the question comes after those before. If the store failed, the question may not have come.
pub data Happens (question : Question) (said : StoreSays) (looked : ℤ) (before after : List StoreEvent) : Type 0 where
  came : (outcome : Outcome) → IsKnownOf question said looked outcome → after ≡ asks question outcome ∷ before
      → Happens question said looked before after
  never_came : said ≡ Failed → after ≡ before → Happens question said looked before after

-- If the question came, the store keeps its promise, and the clocks agree.
pub record KeepsPromise (skew : ℕ) (store : List Stamp) (question : Question) (before after : List StoreEvent) : Type 0 where
  pub answer : (outcome : Outcome) → after ≡ asks question outcome ∷ before → SaysNew store before (asked_stamp question) outcome.is_new
  pub clocks : (outcome : Outcome) → after ≡ asks question outcome ∷ before → (at : ℤ) → IsOf before (forgets (asked_stamp question) at)
      → ClocksAgree skew question outcome.looked at

-- the last of these events lets in a request of this stamp
abbrev pub LetsInLast : List StoreEvent → List StoreEvent → Stamp → Type 0
LetsInLast before after stamp = (event : StoreEvent) × ((after ≡ event ∷ before) × LetsIn event stamp)
