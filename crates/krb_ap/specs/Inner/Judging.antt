-- What is decided of a request before it is remembered or answered, as words of private contracts.
use Rattle.std.specs.Prelude.{◌≡◌, ◌≢◌, ℕ, ℤ, List, Option, Result, Ok, Err, IfErr, IfOk}
use Rattle.krb_der.specs.Kind.{ValueOf}
use Rattle.krb_enc.specs.Key.{IsUsable, profile_of}
use Rattle.krb_enc.specs.Opens.{Opens}
use Rattle.krb_msg.specs.Module.{ap_req, enc_ticket_part}
use Rattle.krb_msg.specs.Fields.{encrypted_fields, request_fields}
use Rattle.krb_replay.specs.Stamp.{Stamp}
use Rattle.krb_ap.specs.Setup.{Setup, Arrival, arrival}
use Rattle.krb_ap.specs.Opened.{Ticketed, authenticator_usage, session_key}
use Rattle.krb_ap.specs.History.{effective, Shows, StandsFor}
use Rattle.krb_ap.specs.Causes.{Cause, TellsPlaceWithin}
use Rattle.krb_ap.specs.Answer.{Answers}
use Rattle.krb_ap.specs.Service.{Service}
use Rattle.krb_ap.specs.declared.accepted.Accepted.{Accepted}
use Rattle.krb_ap.specs.declared.judging.Judged.{Judged}
use Rattle.krb_ap.specs.declared.refusal.Refusal.{Refusal}
use Rattle.krb_ap.specs.declared.refusal.Refusal.TheVariants.{OutOfMemory}

-- a request whose ticket is opened, and whose authenticator is decrypted to this text under a usable
-- session key
pub record IsDecrypted (setup : Setup) (bytes : List ℕ) (request : ValueOf ap_req) (part : ValueOf enc_ticket_part) (plain : List ℕ) : Type 0 where
  pub ticketed : Ticketed setup bytes request part
  pub usable : IsUsable (session_key part)
  pub same_type : (encrypted_fields (request_fields request).authenticator).etype ≡ (session_key part).etype
  pub opens : Opens (profile_of (session_key part)) (session_key part).bytes authenticator_usage
      (encrypted_fields (request_fields request).authenticator).cipher plain

-- a request that is to be remembered, with its stamp and its answer
pub record IsJudged (setup : Setup) (history : List Arrival) (call : Arrival) (stamp : Stamp) (answer : Result Accepted Refusal) : Type 0 where
  pub shows : Shows setup (effective history call.moment) call.bytes stamp
  pub answers : Answers setup history call answer
  pub named : IfErr answer (λ refusal. refusal ≢ OutOfMemory)

-- a request that is refused before it is remembered: by the first cause, and all that it shows is remembered already
pub record IsTurnedAway (setup : Setup) (history : List Arrival) (call : Arrival) (Has : Stamp → Type 0) (refusal : Refusal) : Type 0 where
  pub cause : Cause setup history call refusal
  pub had : (stamp : Stamp) → Shows setup (effective history call.moment) call.bytes stamp → Has stamp

abbrev pub Judgement : Setup → List Arrival → Arrival → (Stamp → Type 0) → Result Judged Refusal → Type 0
Judgement setup history call Has (Ok judged) = IsJudged setup history call judged.tuple judged.answer
Judgement setup history call Has (Err refusal) = refusal ≢ OutOfMemory → IsTurnedAway setup history call Has refusal

-- an answer that is remembered isn't out of memory
abbrev pub IsNamed : Result Judged Refusal → Type 0
IsNamed result = IfOk result (λ judged. IfErr judged.answer (λ refusal. refusal ≢ OutOfMemory))

-- it names a place within the bytes, if any
abbrev pub IsPlacedWithin : List ℕ → Result Judged Refusal → Type 0
IsPlacedWithin bytes (Ok judged) = IfErr judged.answer (TellsPlaceWithin bytes)
IsPlacedWithin bytes (Err refusal) = TellsPlaceWithin bytes refusal

-- so for each history that the memory stands for
abbrev pub Judges : Setup → (Stamp → Type 0) → Option ℤ → List ℕ → ℤ → Result Judged Refusal → Type 0
Judges setup Has latest bytes now result =
    (history : List Arrival) (moment : ℤ) → StandsFor setup Has latest history → now ≡ effective history moment
    → Judgement setup history (arrival bytes moment) Has result

-- as of a service
abbrev pub JudgedBy : {M : Type 0} → (M → Stamp → Type 0) → (M → Option ℤ) → Service M → List ℕ → ℤ → Result Judged Refusal → Type 0
JudgedBy has newest service bytes now result = Judges service.setup (has service.memory) (newest service.memory) bytes now result
