-- Calls that are answered with out of memory: there was none, or the memory of what was seen has a
-- limit, which is reached. Such a call isn't decided, and changes nothing.
use Rattle.std.specs.Prelude.{◌≡◌, Bool, true, false, if◌then◌else◌, List, [], ◌∷◌, Result, Ok, Err}
use Rattle.krb_ap.specs.Setup.{Arrival}
use Rattle.krb_ap.specs.Answer.{taken_of}
use Rattle.krb_ap.specs.Causes.{place}
use Rattle.krb_ap.specs.declared.accepted.Accepted.{Accepted}
use Rattle.krb_ap.specs.declared.refusal.Refusal.{Refusal}
use Rattle.krb_ap.specs.declared.refusal.Refusal.TheVariants.{OutOfMemory}

abbrev pub is_decided : Result Accepted Refusal → Bool
is_decided (Err OutOfMemory) = false
is_decided _ = true

-- the calls that were decided
abbrev pub decided_calls : List Arrival → List (Result Accepted Refusal) → List Arrival
decided_calls (call ∷ calls) (answer ∷ answers) = if is_decided answer then call ∷ decided_calls calls answers else decided_calls calls answers
decided_calls _ _ = []

-- and their answers
abbrev pub decided_answers : List (Result Accepted Refusal) → List (Result Accepted Refusal)
decided_answers [] = []
decided_answers (answer ∷ answers) = if is_decided answer then answer ∷ decided_answers answers else decided_answers answers

-- all of these were decided
abbrev pub AreDecided : List (Result Accepted Refusal) → Type 0
AreDecided [] = Unit {0}
AreDecided (answer ∷ answers) = (is_decided answer ≡ true) × AreDecided answers

-- two answers say the same: the request is accepted, and the same is known of it; or it is refused
-- for the same cause
abbrev pub SaysTheSame : Result Accepted Refusal → Result Accepted Refusal → Type 0
SaysTheSame (Ok one) (Ok other) = taken_of one ≡ taken_of other
SaysTheSame (Err one) (Err other) = place one ≡ place other
SaysTheSame _ _ = ⊥

-- each answer says the same as the other list's
abbrev pub SayTheSame : List (Result Accepted Refusal) → List (Result Accepted Refusal) → Type 0
SayTheSame [] [] = Unit {0}
SayTheSame (one ∷ ones) (other ∷ others) = SaysTheSame one other × SayTheSame ones others
SayTheSame _ _ = ⊥
