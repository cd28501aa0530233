-- The service's side of a negotiation, and its answers without a token.
use Rattle.std.specs.Prelude.{◌≡◌, ◌<◌, ◌≤◌, ℕ, List, length, Some, None, Ok, Err}
use Rattle.krb_gss.specs.declared.fault.TokenFault.{TokenFault}
use Rattle.krb_gss.specs.declared.negotiating.Negotiation.{Negotiation as Stage}
use Rattle.krb_gss.specs.declared.negotiating.Negotiation.TheVariants.{Begun, Asked, Ended}
use Rattle.krb_gss.specs.declared.negotiating.Taken.{Taken}
use Rattle.krb_gss.specs.declared.negotiating.Taken.TheVariants.{First, Asks, Later}
use Rattle.krb_gss.specs.declared.verdict.Verdict.{Verdict as Said}
use Rattle.krb_gss.specs.declared.verdict.Verdict.TheVariants.{Completed, Incomplete, Rejected}
use Rattle.krb_gss.specs.Answer.{WritesVerdict}
use Rattle.krb_gss.specs.Negotiation.{Takes}
use Rattle.krb_gss.specs.Said.{Says}
use Rattle.krb_c.specs.Answer.{Hands, plain}
use Rattle.krb_c.specs.Codes.{bad_negotiation, bad_verdict, nothing_there, ok, out_of_memory}
use Rattle.krb_c.specs.Tokens.{later_of, mechanism_number, token_answer, wrapped_of}
use Rattle.krb_c.specs.declared.structs.Answer.{Answer}
use Rattle.krb_c.specs.declared.structs.Negotiation.{Negotiation}
use Rattle.krb_c.specs.declared.structs.Verdict.{Verdict}
use Rattle.krb_c.specs.declared.structs.Wrapped.{Wrapped}

-- ---- the stages of a negotiation as numbers
abbrev pub negotiation_of : Stage → Negotiation
negotiation_of Begun = record { stage = 0; asked = 0 }
negotiation_of (Asked first) = record { stage = 1; asked = mechanism_number first }
negotiation_of Ended = record { stage = 2; asked = 0 }

-- the numbers are those of no stage
abbrev pub IsNoStage : Negotiation → Type 0
IsNoStage negotiation = (stage : Stage) → negotiation ≡ negotiation_of stage → ⊥

-- What is returned of a token, and how it is wrapped: its request, or the answer that asks for one. Of the second the token's mechanism is
-- 0, no name.
abbrev pub Returns : Taken → List ℕ → Wrapped → Type 0
Returns (First opened) bytes wrapped = (bytes ≡ opened.request.now) × (wrapped ≡ wrapped_of opened.wrapping opened.mechanism)
Returns (Later later) bytes wrapped = (bytes ≡ later.request.now) × (wrapped ≡ later_of later.mechanism)
Returns (Asks first) bytes wrapped = WritesVerdict (Incomplete first) bytes × (wrapped ≡ record { mechanism = 0; negotiated = mechanism_number first })

-- a negotiation at a stage takes a token; with a short buffer it stays as it is
pub data Taking (stage : Stage) (token : List ℕ) (old new : Negotiation) (was is : Wrapped) (before after : List ℕ) (answer : Answer) : Type 0 where
  took : (taken : Taken) (next : Stage) (bytes : List ℕ) → Takes token stage (Ok taken) next → Returns taken bytes is → Hands bytes before after answer
      → (length bytes ≤ length before → new ≡ negotiation_of next) → (length before < length bytes → new ≡ old)
      → Taking stage token old new was is before after answer
  refused : (fault : TokenFault) (next : Stage) → Takes token stage (Err fault) next → answer ≡ token_answer fault → new ≡ negotiation_of next
      → is ≡ was → after ≡ before → Taking stage token old new was is before after answer
  memory : answer ≡ plain out_of_memory → new ≡ old → is ≡ was → after ≡ before → Taking stage token old new was is before after answer

pub data TakesNext (token : List ℕ) (old new : Negotiation) (was is : Wrapped) (before after : List ℕ) (answer : Answer) : Type 0 where
  no_stage : IsNoStage old → answer ≡ plain bad_negotiation → new ≡ old → is ≡ was → after ≡ before → TakesNext token old new was is before after answer
  at_stage : (stage : Stage) → old ≡ negotiation_of stage → Taking stage token old new was is before after answer
      → TakesNext token old new was is before after answer

-- ---- answers without a token
abbrev pub verdict_of : Said → Verdict
verdict_of (Completed None) = record { says = 1; mechanism = 0 }
verdict_of (Completed (Some first)) = record { says = 1; mechanism = mechanism_number first }
verdict_of (Incomplete first) = record { says = 2; mechanism = mechanism_number first }
verdict_of Rejected = record { says = 3; mechanism = 0 }

abbrev pub IsNoVerdict : Verdict → Type 0
IsNoVerdict verdict = (said : Said) → verdict ≡ verdict_of said → ⊥

-- the bytes are the answer that says this
pub record SaysVerdict (verdict : Verdict) (bytes : List ℕ) : Type 0 where
  pub said : Said
  pub said_is : verdict ≡ verdict_of said
  pub written : WritesVerdict said bytes

pub data IsUnsaid (verdict : Verdict) (answer : Answer) : Type 0 where
  no_verdict : IsNoVerdict verdict → answer ≡ plain bad_verdict → IsUnsaid verdict answer
  no_room : (said : Said) → verdict ≡ verdict_of said → answer ≡ plain out_of_memory → IsUnsaid verdict answer

-- what the bytes say is returned, if they are such an answer
pub data ReadsVerdict (bytes : List ℕ) (was is : Verdict) (answer : Answer) : Type 0 where
  says : (said : Said) → Says said bytes → is ≡ verdict_of said → answer ≡ plain ok → ReadsVerdict bytes was is answer
  says_none : ((said : Said) → Says said bytes → ⊥) → is ≡ was → answer ≡ plain nothing_there → ReadsVerdict bytes was is answer
