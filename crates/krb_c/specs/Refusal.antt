-- The error that says why a request was refused.
use Rattle.std.specs.Prelude.{◌≡◌, ◌≢◌, ◌⊎◌, ℕ, ℤ, List, Option, Some, None, Ok}
use Rattle.krb_name.specs.Reading.{IsReadAs}
use Rattle.krb_name.specs.declared.principal.Principal.{Principal}
use Rattle.krb_ap.specs.Causes.{code_of}
use Rattle.krb_ap.specs.ErrorReply.{IsErrorReply, IsErrorTooLong}
use Rattle.krb_ap.specs.declared.errors.ReplyFault.{ReplyFault}
use Rattle.krb_ap.specs.declared.errors.ReplyFault.TheVariants as error
use Rattle.krb_ap.specs.declared.refusal.Refusal.{Refusal}
use Rattle.krb_c.specs.Service.{IsMomentOf}
use Rattle.krb_c.specs.Answer.{Delivers, plain}
use Rattle.krb_c.specs.Request.{HasName, IsMomentFault, IsNameFault, moment_of}
use Rattle.krb_c.specs.Codes.{cause_code, no_code, nothing_there, out_of_memory, too_long}
use Rattle.krb_c.specs.declared.structs.Answer.{Answer}
use Rattle.krb_c.specs.declared.structs.Time.{Time}

abbrev pub error_answer : ReplyFault → Answer
error_answer error.NoCode = plain no_code
error_answer error.TooLong = plain too_long
error_answer error.OutOfMemory = plain out_of_memory

-- the bytes are the error of a refusal, for a service's text, the type of its name and a moment
pub record Errors (refusal : Refusal) (text : List ℕ) (name_type : ℤ) (now : Time) (bytes : List ℕ) : Type 0 where
  pub service : Principal
  pub service_is : IsReadAs text (Ok service)
  pub type_is : service.name_type ≡ name_type
  pub now_is : IsMomentOf now
  pub error : IsErrorReply refusal (moment_of now) service bytes

-- why there is none; lack of memory isn't reported for a refusal that has no code
abbrev pub PreventsError : Refusal → ℤ → Principal → ReplyFault → Type 0
PreventsError refusal now service error.NoCode = code_of refusal ≡ None
PreventsError refusal now service error.TooLong = IsErrorTooLong refusal now service
PreventsError refusal now service error.OutOfMemory = code_of refusal ≢ None

pub record LacksError (refusal : Refusal) (text : List ℕ) (name_type : ℤ) (now : Time) (answer : Answer) : Type 0 where
  pub service : Principal
  pub service_is : IsReadAs text (Ok service)
  pub type_is : service.name_type ≡ name_type
  pub now_is : IsMomentOf now
  pub fault : ReplyFault
  pub prevents : PreventsError refusal (moment_of now) service fault
  pub answer_is : answer ≡ error_answer fault

-- the first that holds
abbrev pub IsErrorFault : Refusal → List ℕ → ℤ → Time → Answer → Type 0
IsErrorFault refusal text name_type now answer =
    IsNameFault text answer ⊎ (HasName text × (IsMomentFault now answer ⊎ LacksError refusal text name_type now answer))

-- the error of what was refused is returned, or the reason is reported
abbrev pub TellsError : Option Refusal → List ℕ → ℤ → Time → List ℕ → List ℕ → Answer → Type 0
TellsError None text name_type now old new answer = (answer ≡ plain nothing_there) × (new ≡ old)
TellsError (Some refusal) text name_type now old new answer =
    Delivers (Errors refusal text name_type now) (IsErrorFault refusal text name_type now) old new answer

-- why a request is refused has this code
abbrev pub IsCauseOf : ℕ → Refusal → Type 0
IsCauseOf code refusal = (code_of refusal ≢ None) × (cause_code refusal ≡ code)

-- the error of the cause that has this code is returned, or the reason is reported; there is none
-- for other codes
abbrev pub TellsErrorOf : ℕ → List ℕ → ℤ → Time → List ℕ → List ℕ → Answer → Type 0
TellsErrorOf code text name_type now old new answer =
    ((refusal : Refusal) × (IsCauseOf code refusal × TellsError (Some refusal) text name_type now old new answer))
    ⊎ (((refusal : Refusal) → ¬ IsCauseOf code refusal) × ((answer ≡ plain no_code) × (new ≡ old)))
