-- A login that waits for a store of stamps: what the store is asked, and what is decided by what it says.
use Rattle.std.specs.Prelude.{◌≡◌, ◌≢◌, ◌⊎◌, ℕ, ℤ, List, Option, Some, None, false}
use Rattle.krb_time.specs.Moments.{IsMoment, micros_of}
use Rattle.krb_replay.specs.Bytes.{IsBytesOf}
use Rattle.krb_replay.specs.Keeping.{kept_until}
use Rattle.krb_login.specs.Store.{Settles}
use Rattle.krb_login.specs.declared.decision.Decision.{Decision as LoginDecision}
use Rattle.krb_login.specs.declared.store.StoreSays.{StoreSays}
use Rattle.krb_login.specs.declared.store.StoreSays.TheVariants.{New, Known, Failed}
use Rattle.krb_talk.specs.declared.decision.Decision.{Decision}
use Rattle.krb_c.specs.Answer.{Hands, plain}
use Rattle.krb_c.specs.Codes.{bad_moment, bad_said, empty_handle, not_waiting, out_of_memory}
use Rattle.krb_c.specs.Login.{IsConcluded, IsKept, TellsProgress}
use Rattle.krb_c.specs.Service.{IsMomentOf}
use Rattle.krb_c.specs.Stamps.{IsTimeOf}
use Rattle.krb_c.specs.declared.accepted_state.AcceptedState.{AcceptedState}
use Rattle.krb_c.specs.declared.login_state.LoginState.{LoginState}
use Rattle.krb_c.specs.declared.login_state.Progress.{Progress}
use Rattle.krb_c.specs.declared.login_state.Progress.TheVariants as progress
use Rattle.krb_c.specs.declared.question.Question.{Question}
use Rattle.krb_c.specs.declared.structs.Answer.{Answer}
use Rattle.krb_c.specs.declared.structs.Time.{Time}

abbrev pub Waits : Progress → Type 0
Waits progress.Nothing = ⊥
Waits (progress.Waiting question) = Unit {0}
Waits (progress.Decided outcome) = ⊥

-- ---- what the store is asked

-- until when it keeps the stamp
abbrev pub until : Question → ℤ
until question = kept_until question.asking.stamp question.asking.skew

-- the stamp's bytes and that moment are returned
pub record HandsQuestion (question : Question) (is : Time) (old new : List ℕ) (answer : Answer) : Type 0 where
  pub bytes : List ℕ
  pub bytes_are : IsBytesOf question.asking.stamp bytes
  pub until_is : IsTimeOf (until question) is
  pub hands : Hands bytes old new answer

-- why they aren't: the first that holds
abbrev pub IsQuestionFault : Question → Answer → Type 0
IsQuestionFault question answer =
    ((¬ IsMoment (until question)) × (answer ≡ plain bad_moment)) ⊎ (IsMoment (until question) × (answer ≡ plain out_of_memory))

abbrev pub TellsQuestion : Progress → Time → Time → List ℕ → List ℕ → Answer → Type 0
TellsQuestion progress.Nothing was is old new answer = (answer ≡ plain not_waiting) × ((is ≡ was) × (new ≡ old))
TellsQuestion (progress.Waiting question) was is old new answer =
    HandsQuestion question is old new answer ⊎ (IsQuestionFault question answer × ((is ≡ was) × (new ≡ old)))
TellsQuestion (progress.Decided outcome) was is old new answer = (answer ≡ plain not_waiting) × ((is ≡ was) × (new ≡ old))

-- ---- what it says
abbrev pub said_new : ℕ
said_new = 1

abbrev pub said_known : ℕ
said_known = 2

abbrev pub said_failed : ℕ
said_failed = 3

abbrev pub IsSaid : ℕ → StoreSays → Type 0
IsSaid number New = number ≡ said_new
IsSaid number Known = number ≡ said_known
IsSaid number Failed = number ≡ said_failed

abbrev pub IsNotSaid : ℕ → Type 0
IsNotSaid number = (number ≢ said_new) × ((number ≢ said_known) × (number ≢ said_failed))

-- ---- the decision

-- A login is settled as krb_login's question is, with what was drawn for the reply, and concluded by that. The decision is kept.
pub record IsSettled (question : Question) (said : StoreSays) (now : ℤ) (after : LoginState) (kept : AcceptedState) : Type 0 where
  pub decided : LoginDecision
  pub decision : Decision
  pub settles : Settles question.asking said now question.confounder question.choice decided
  pub concluded : IsConcluded question.message.items question.confounder question.choice question.talk question.negotiation decided decision after.talk
  pub is_kept : IsKept false decision after kept

-- nothing is decided: the first that applies
abbrev pub IsIdle : Option LoginState → Answer → Type 0
IsIdle None answer = answer ≡ plain empty_handle
IsIdle (Some state) answer =
    ((¬ Waits state.progress) × (answer ≡ plain not_waiting)) ⊎ (Waits state.progress × (answer ≡ plain out_of_memory))

abbrev pub IsUnsettled : Option LoginState → ℕ → Time → Answer → Type 0
IsUnsettled held number time answer =
    (IsNotSaid number × (answer ≡ plain bad_said))
    ⊎ (((said : StoreSays) × IsSaid number said) × (((¬ IsMomentOf time) × (answer ≡ plain bad_moment)) ⊎ (IsMomentOf time × IsIdle held answer)))

-- A login that waits is decided by what the store said, once, and the answer is the decision's; or nothing
-- is decided, and all stays as it was.
pub data SettlesLogin (before after : Option LoginState) (had kept : Option AcceptedState) (number : ℕ) (time : Time) (was is : List ℕ) (answer : Answer) : Type 0 where
  unsettled : IsUnsettled before number time answer → after ≡ before → kept ≡ had → is ≡ was
      → SettlesLogin before after had kept number time was is answer
  settled : (state next : LoginState) (question : Question) (held : AcceptedState) (said : StoreSays) → before ≡ Some state → after ≡ Some next → kept ≡ Some held
      → state.progress ≡ progress.Waiting question → IsSaid number said → IsMomentOf time
      → IsSettled question said (micros_of time.seconds time.micros) next held → TellsProgress next.progress was is answer
      → SettlesLogin before after had kept number time was is answer
