-- What a handle holds when it isn't empty, and what a call makes of it.
use Rattle.std.specs.Prelude.{◌≡◌, ◌==◌, ◌&&◌, not, if◌then◌else◌, Bool, true, false, ◌≤◌, ◌<◌, ℕ, ℤ, List, [], ◌∷◌, length, Contains, Option, Some, None, Result, Ok, Err, IfErr, IfSome, IsErrOf}
use Rattle.krb_der.specs.Kind.{ValueOf}
use Rattle.krb_time.specs.Time.{IsSeconds}
use Rattle.krb_msg.specs.Module.{ap_req}
use Rattle.krb_time.specs.Moments.{micros_of}
use Rattle.krb_keytab.specs.Entry.{KeytabEntry}
use Rattle.krb_keytab.specs.Only.{KeepsOnly}
use Rattle.krb_name.specs.Reading.{IsReadAs}
use Rattle.krb_name.specs.declared.principal.Principal.{Principal}
use Rattle.krb_replay.specs.Memory.{IsSizeOf, empty_memory, later_of, SameStamps}
use Rattle.krb_replay.specs.Limit.{limited, limits_of}
use Rattle.krb_replay.specs.Stamp.{Stamp}
use Rattle.krb_ap.specs.Setup.{Arrival}
use Rattle.krb_ap.specs.Opened.{Asks, AsksFor, stamp_at}
use Rattle.krb_ap.specs.History.{IsShownLately, StandsFor}
use Rattle.krb_ap.specs.Causes.{offset_of}
use Rattle.krb_ap.specs.Answer.{Answers, after}
use Rattle.krb_ap.specs.declared.accepted.Accepted.{Accepted}
use Rattle.krb_ap.specs.declared.refusal.Refusal.{Refusal}
use Rattle.krb_ap.specs.declared.refusal.Refusal.TheVariants.{OutOfMemory}
use Rattle.krb_login.specs.declared.terms.Terms.{Terms}
use Rattle.krb_c.specs.Answer.{plain, told}
use Rattle.krb_c.specs.Codes.{full, nothing_there, ok, shared}
use Rattle.krb_c.specs.declared.structs.Answer.{Answer}
use Rattle.krb_c.specs.declared.structs.Time.{Time}
use Rattle.krb_c.specs.declared.structs.Usage.{Usage}
use Rattle.krb_c.specs.declared.accepted_state.AcceptedState.{AcceptedState}
use Rattle.krb_c.specs.declared.service_state.ServiceState.{ServiceState}

-- what it has seen, and the latest moment that it was given
abbrev pub Remembers : ServiceState → Stamp → Type 0
Remembers state = Contains state.service.acceptor.memory.memory.stamps

abbrev pub latest_of : ServiceState → Option ℤ
latest_of state = state.service.acceptor.memory.memory.latest

-- its memory stands for what it was given before
abbrev pub Stands : ServiceState → List Arrival → Type 0
Stands state history = StandsFor state.service.acceptor.setup (Remembers state) (latest_of state) history

-- it is new: it has these entries, a skew of so many microseconds, and the moment at which it was
-- started again, if it ran before; its limits; its terms, and the type of the subkey that its replies
-- send; whether it shares a store of stamps; it has seen nothing, and has refused nothing
abbrev pub fresh : List KeytabEntry → ℕ → Option ℤ → ℕ → ℕ → Terms → ℕ → Bool → ServiceState
fresh entries skew start limit limit_for_client terms subkey_type is_shared = record {
  service = record {
    acceptor = record {
      setup = record { entries = entries; skew = skew; start = start };
      memory = limited empty_memory limit limit_for_client;
    };
    terms = terms;
  };
  subkey_type = subkey_type;
  is_shared = is_shared;
  refusal = None;
}

-- a service of these entries: of all if the text has no bytes, else of those of the name whose text
-- it is
abbrev pub Serves : List ℕ → List KeytabEntry → List KeytabEntry → Type 0
Serves [] entries kept = kept ≡ entries
Serves (byte ∷ text) entries kept = (name : Principal) × (IsReadAs (byte ∷ text) (Ok name) × KeepsOnly name entries kept)

-- how many requests it couldn't remember because a limit is reached, modulo 2 to the 64
abbrev pub full_of : ServiceState → ℕ
full_of state = state.service.acceptor.memory.refused

-- what an accepted request is remembered by
abbrev pub stamp_told : Accepted → Stamp
stamp_told x = stamp_at x.service x.client (micros_of x.ctime x.cusec)

-- what was accepted, if it was
abbrev pub accepted_by : Result Accepted Refusal → Option Accepted
accepted_by (Ok accepted) = Some accepted
accepted_by (Err refusal) = None

-- whether it isn't decided, because memory is lacking
abbrev pub is_lacking : Result Accepted Refusal → Bool
is_lacking (Ok accepted) = false
is_lacking (Err OutOfMemory) = true
is_lacking (Err refusal) = false

-- why it was refused, if it was
abbrev pub refused_by : Result Accepted Refusal → Option Refusal
refused_by (Ok accepted) = None
refused_by (Err refusal) = Some refusal

-- it refused this last, or nothing, and is otherwise unchanged
abbrev pub with_refusal : ServiceState → Option Refusal → ServiceState
with_refusal state refusal = record { service = state.service; subkey_type = state.subkey_type; is_shared = state.is_shared; refusal = refusal }

abbrev pub cleared : ServiceState → ServiceState
cleared state = with_refusal state None

-- nothing accepted is kept
abbrev pub nothing_kept : AcceptedState
nothing_kept = record { accepted = None; has_sent = false }

abbrev pub emptied : AcceptedState → AcceptedState
emptied kept = nothing_kept

-- What was accepted is kept. Neither side has sent a message after it.
abbrev pub kept_by : Result Accepted Refusal → AcceptedState
kept_by outcome = record { accepted = accepted_by outcome; has_sent = false }

-- these are a second of the years 0000 to 9999, and microseconds after it
abbrev pub IsMomentOf : Time → Type 0
IsMomentOf time = IsSeconds time.seconds × (time.micros < 1_000_000)

-- what is answered to an outcome, if so many were refused for a limit before and after
abbrev pub told_of : ℕ → ℕ → Result Accepted Refusal → Answer
told_of before after outcome = if is_lacking outcome && not (before == after) then plain full else told outcome

-- an empty handle stays empty, and for a filled one this holds before and after
abbrev pub Turns : {Held : Type 0} → Option Held → Option Held → Type 0 → (Held → Held → Type 0) → Type 0
Turns None new Empty Filled = (new ≡ None) × Empty
Turns (Some old) None Empty Filled = ⊥
Turns (Some old) (Some new) Empty Filled = Filled old new

-- the latest moment is returned, as a second and the microseconds after it, if there is one
abbrev pub TellsLatest : Option ℤ → Time → Time → Answer → Type 0
TellsLatest None old new answer = (answer ≡ plain nothing_there) × (new ≡ old)
TellsLatest (Some at) old new answer = (answer ≡ plain ok) × ((at ≡ micros_of new.seconds new.micros) × (new.micros < 1_000_000))

-- A call is decided: this is the outcome, what is known afterwards, what is kept of it, and what is
-- answered. If memory is lacking because a limit is reached, the answer says so.
pub record Decides (old new : ServiceState) (call : Arrival) (kept : Option Accepted) (answer : Answer) : Type 0 where
  pub outcome : Result Accepted Refusal
  pub answers : (history : List Arrival) → Stands old history → Answers old.service.acceptor.setup history call outcome
  pub goes_on : (history : List Arrival) → Stands old history → Stands new (after history call outcome)
  pub forgets : (history : List Arrival) → Stands old history → ¬ IsErrOf outcome OutOfMemory
      → SameStamps (IsShownLately old.service.acceptor.setup (after history call outcome)) (Remembers new)
  pub limits : limits_of new.service.acceptor.memory ≡ limits_of old.service.acceptor.memory
  pub setup : new.service.acceptor.setup ≡ old.service.acceptor.setup
  pub terms : new.service.terms ≡ old.service.terms
  pub subkey : new.subkey_type ≡ old.subkey_type
  pub shared : new.is_shared ≡ old.is_shared
  pub moves : ¬ IsErrOf outcome OutOfMemory → latest_of new ≡ Some (later_of (latest_of old) call.moment)
  pub offset : IfErr outcome (λ refusal. IfSome (offset_of refusal) (λ at. at ≤ length call.bytes))
  pub memory : IsErrOf outcome OutOfMemory → (request : ValueOf ap_req) × Asks call.bytes request
  pub unchanged : IsErrOf outcome OutOfMemory → SameStamps (Remembers old) (Remembers new) × (latest_of new ≡ latest_of old)
  pub kept_is : kept ≡ accepted_by outcome
  pub service : IfSome kept (λ accepted. AsksFor call.bytes accepted.service)
  pub remembered : (history : List Arrival) → Stands old history → IfSome kept (λ accepted. Remembers new (stamp_told accepted))
  pub refusal : new.refusal ≡ refused_by outcome
  pub told_is : answer ≡ told_of (full_of old) (full_of new) outcome

-- A service that shares a store of stamps decides nothing without it.
abbrev pub DecidesAlone : Bool → ServiceState → ServiceState → Arrival → Option Accepted → Answer → Type 0
DecidesAlone true old new call kept answer = (answer ≡ plain shared) × ((new ≡ cleared old) × (kept ≡ None))
DecidesAlone false old new call kept answer = Decides old new call kept answer

-- what is remembered, and the limits, are reported
pub record TellsUsage (state : ServiceState) (usage : Usage) (answer : Answer) : Type 0 where
  pub remembered : IsSizeOf (Remembers state) usage.remembered
  pub held : usage.remembered ≤ usage.held
  pub limit : usage.limit ≡ state.service.acceptor.memory.limit
  pub limit_for_client : usage.limit_for_client ≡ state.service.acceptor.memory.limit_for_client
  pub full : usage.full ≡ full_of state
  pub answer_is : answer ≡ plain ok
