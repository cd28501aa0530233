-- What the limits of a service's memory do in a list of calls, for each place of the list.
use Rattle.std.specs.Prelude.{◌≡◌, ◌+◌, ℕ, IsErrOf, List, ◌∷◌, ◌++◌, length, Result}
use Rattle.krb_replay.specs.Limit.{Limits}
use Rattle.krb_ap.specs.Setup.{Setup, Arrival}
use Rattle.krb_ap.specs.History.{IsShown}
use Rattle.krb_ap.specs.Causes.{Cause, IsRemembered}
use Rattle.krb_ap.specs.Answer.{Run}
use Rattle.krb_ap.specs.Service.{HeedsLimits}
use Rattle.krb_ap.specs.declared.accepted.Accepted.{Accepted}
use Rattle.krb_ap.specs.declared.refusal.Refusal.{Refusal}
use Rattle.krb_ap.specs.declared.refusal.Refusal.TheVariants.{OutOfMemory}

-- one of these calls and its answer: the calls before and after it, and the history before it
pub record OneOf (setup : Setup) (history : List Arrival) (calls : List Arrival) (answers : List (Result Accepted Refusal)) : Type 0 where
  pub before : List Arrival
  pub call : Arrival
  pub later : List Arrival
  pub calls_are : calls ≡ before ++ call ∷ later
  pub answers_before : List (Result Accepted Refusal)
  pub answer : Result Accepted Refusal
  pub answers_after : List (Result Accepted Refusal)
  pub answers_are : answers ≡ answers_before ++ answer ∷ answers_after
  pub history_before : List Arrival
  pub run : Run setup history before answers_before history_before

-- The counts of what was refused for each limit, before the call at each place and after the last
-- one. Each call heeds the limits, by what was shown before: of what is recent, the memory has just
-- that. One that is refused for a cause that isn't remembered isn't counted.
pub record HeedsLimitsInAll (limits : List Limits) (old new : List ℕ) (setup : Setup) (history : List Arrival) (calls : List Arrival)
    (answers : List (Result Accepted Refusal)) : Type 0 where
  pub counts : ℕ → List ℕ
  pub first : counts 0 ≡ old
  pub last : counts (length calls) ≡ new
  pub heeds : (one : OneOf setup history calls answers) → HeedsLimits (IsShown setup one.history_before) limits (counts (length one.before))
      (counts (length one.before + 1)) setup one.history_before one.call (IsErrOf one.answer OutOfMemory)
  pub uncounted : (one : OneOf setup history calls answers) (cause : Refusal) → Cause setup one.history_before one.call cause → ¬ IsRemembered cause
      → counts (length one.before + 1) ≡ counts (length one.before)
