-- What a service answers, and the history afterwards.
use Rattle.std.specs.Prelude.{◌≡◌, ◌≢◌, ℤ, Bool, IsTrue, List, [], ◌∷◌, Option, Result, Ok, Err}
use Rattle.std.specs.Option.{option_map}
use Rattle.krb_msg.specs.Owned.{owned_key_of, owned_typed_of, owned_list_of}
use Rattle.krb_replay.specs.Stamp.{Stamp}
use Rattle.krb_ap.specs.Setup.{Setup, Arrival, arrival, decided_now}
use Rattle.krb_replay.specs.Memory.{SameStamps}
use Rattle.krb_ap.specs.History.{IsShown, IsShownLately, StandsFor}
use Rattle.krb_ap.specs.declared.call.Call.{Call}
use Rattle.krb_ap.specs.Taken.{Taken, Accept}
use Rattle.krb_ap.specs.Causes.{Cause}
use Rattle.krb_ap.specs.declared.accepted.Accepted.{Accepted}
use Rattle.krb_ap.specs.declared.refusal.Refusal.{Refusal}
use Rattle.krb_ap.specs.declared.refusal.Refusal.TheVariants.{OutOfMemory}

-- what an answer says
abbrev pub taken_of : Accepted → Taken
taken_of x = record {
  client = x.client;
  service = x.service;
  session_key = x.session_key;
  flags = x.flags.0;
  transited = owned_typed_of x.transited;
  authtime = x.authtime;
  starttime = x.starttime;
  endtime = x.endtime;
  addresses = option_map (λ l. owned_list_of l.items) x.addresses;
  ticket_authorization = option_map (λ l. owned_list_of l.items) x.ticket_authorization;
  subkey = option_map owned_key_of x.subkey;
  seq = x.seq;
  checksum = option_map owned_typed_of x.checksum;
  authenticator_authorization = option_map (λ l. owned_list_of l.items) x.authenticator_authorization;
  ctime = x.ctime;
  cusec = x.cusec;
  wants_reply = x.mutual;
}

-- after a history an arrival is accepted with what is then known, or refused for the first cause,
-- or refused with out of memory
abbrev pub Answers : Setup → List Arrival → Arrival → Result Accepted Refusal → Type 0
Answers setup history call (Ok accepted) = Accept setup history call (taken_of accepted)
Answers setup history call (Err refusal) = refusal ≢ OutOfMemory → Cause setup history call refusal

-- the history afterwards: with the call, or unchanged if memory ran out
abbrev pub after_refusal : List Arrival → Arrival → Refusal → List Arrival
after_refusal history call OutOfMemory = history
after_refusal history call _ = decided_now call ∷ history

abbrev pub after : List Arrival → Arrival → Result Accepted Refusal → List Arrival
after history call (Ok accepted) = decided_now call ∷ history
after history call (Err refusal) = after_refusal history call refusal

-- the answers to a list of calls, one after another, and the history afterwards
abbrev pub Run : Setup → List Arrival → List Arrival → List (Result Accepted Refusal) → List Arrival → Type 0
Run setup history [] [] end = end ≡ history
Run setup history (call ∷ calls) (answer ∷ answers) end =
    Answers setup history call answer × Run setup (after history call answer) calls answers end
Run setup history _ _ end = ⊥

-- a call as it arrives
abbrev pub arrival_of : Call → Arrival
arrival_of call = arrival call.bytes.now call.now

-- The calls are answered one after another, which leads to a history, and the memory stands for
-- that. If the memory keeps everything and had exactly what was shown, it still has. If it forgets,
-- and had exactly what was shown and is recent, it still has.
pub record Served (keeping forgetting : Bool) (setup : Setup) (history : List Arrival) (calls : List Arrival) (answers : List (Result Accepted Refusal))
    (Old New : Stamp → Type 0) (latest : Option ℤ) : Type 0 where
  pub end : List Arrival
  pub run : Run setup history calls answers end
  pub stands : StandsFor setup New latest end
  pub keeps : IsTrue keeping → SameStamps (IsShown setup history) Old → SameStamps (IsShown setup end) New
  pub forgets : IsTrue forgetting → SameStamps (IsShownLately setup history) Old → SameStamps (IsShownLately setup end) New
