-- What is returned of an accepted request for a store that several services share, and when its
-- ticket becomes valid.
use Rattle.std.specs.Prelude.{◌≡◌, ◌≤◌, ◌<◌, ◌⊎◌, ◌*◌, ℕ, ℤ, List, Option, Some, None}
use Rattle.krb_time.specs.Moments.{IsMoment, micros_of}
use Rattle.krb_replay.specs.Bytes.{IsBytesOf}
use Rattle.krb_replay.specs.Keeping.{kept_until}
use Rattle.krb_ap.specs.declared.accepted.Accepted.{Accepted}
use Rattle.krb_c.specs.Service.{stamp_told}
use Rattle.krb_c.specs.Answer.{Hands, plain}
use Rattle.krb_c.specs.Codes.{bad_moment, bad_skew, nothing_there, ok, out_of_memory}
use Rattle.krb_c.specs.declared.structs.Answer.{Answer}
use Rattle.krb_c.specs.declared.structs.Time.{Time}

-- the struct is this moment
abbrev pub IsTimeOf : ℤ → Time → Type 0
IsTimeOf at time = (at ≡ micros_of time.seconds time.micros) × (time.micros < 1_000_000)

-- until when a store keeps what is remembered of the request, by a skew in seconds
abbrev pub until : Accepted → ℕ → ℤ
until x skew = kept_until (stamp_told x) (1_000_000 * skew)

-- its bytes and that moment are returned
pub record HandsStamp (x : Accepted) (skew : ℕ) (is : Time) (old new : List ℕ) (answer : Answer) : Type 0 where
  pub skew_is : skew ≤ 86_400
  pub bytes : List ℕ
  pub bytes_are : IsBytesOf (stamp_told x) bytes
  pub until_is : IsTimeOf (until x skew) is
  pub hands : Hands bytes old new answer

-- why they aren't
pub data IsStampFault (x : Accepted) (skew : ℕ) (answer : Answer) : Type 0 where
  too_large : 86_400 < skew → answer ≡ plain bad_skew → IsStampFault x skew answer
  too_late : skew ≤ 86_400 → (IsMoment (until x skew) → ⊥) → answer ≡ plain bad_moment → IsStampFault x skew answer
  no_memory : skew ≤ 86_400 → answer ≡ plain out_of_memory → IsStampFault x skew answer

abbrev pub TellsStamp : Option Accepted → ℕ → Time → Time → List ℕ → List ℕ → Answer → Type 0
TellsStamp None skew was is old new answer = (answer ≡ plain nothing_there) × ((is ≡ was) × (new ≡ old))
TellsStamp (Some x) skew was is old new answer =
    HandsStamp x skew is old new answer ⊎ (IsStampFault x skew answer × ((is ≡ was) × (new ≡ old)))

-- the ticket's start time is returned, if it has one
abbrev pub TellsStartOf : Option ℤ → Time → Time → Answer → Type 0
TellsStartOf None was is answer = (answer ≡ plain nothing_there) × (is ≡ was)
TellsStartOf (Some second) was is answer = (answer ≡ plain ok) × (is ≡ record { seconds = second; micros = 0 })

abbrev pub TellsStart : Option Accepted → Time → Time → Answer → Type 0
TellsStart None was is answer = (answer ≡ plain nothing_there) × (is ≡ was)
TellsStart (Some x) was is answer = TellsStartOf x.starttime was is answer
