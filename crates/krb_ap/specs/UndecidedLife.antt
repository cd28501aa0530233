-- Calls that are answered with out of memory, in the life of a service whose keytab is replaced.
use Rattle.std.specs.Prelude.{◌≡◌, true, if◌then◌else◌, List, [], ◌∷◌}
use Rattle.krb_ap.specs.Living.{Step, answers, renews}
use Rattle.krb_ap.specs.Undecided.{SaysTheSame, is_decided}

-- without the calls that weren't decided
abbrev pub decided_steps : List Step → List Step
decided_steps [] = []
decided_steps (answers call answer ∷ steps) = if is_decided answer then answers call answer ∷ decided_steps steps else decided_steps steps
decided_steps (renews entries ∷ steps) = renews entries ∷ decided_steps steps

-- the other service gets the same calls and keytabs, and decides each call
abbrev pub DecidesEach : List Step → List Step → Type 0
DecidesEach [] [] = Unit {0}
DecidesEach (answers call one ∷ steps) (answers other_call other ∷ others) = (other_call ≡ call) × ((is_decided other ≡ true) × DecidesEach steps others)
DecidesEach (renews entries ∷ steps) (renews other_entries ∷ others) = (other_entries ≡ entries) × DecidesEach steps others
DecidesEach _ _ = ⊥

-- each of its answers says the same
abbrev pub SayTheSameInLife : List Step → List Step → Type 0
SayTheSameInLife [] [] = Unit {0}
SayTheSameInLife (answers call one ∷ steps) (answers other_call other ∷ others) = SaysTheSame one other × SayTheSameInLife steps others
SayTheSameInLife (renews entries ∷ steps) (renews other_entries ∷ others) = SayTheSameInLife steps others
SayTheSameInLife _ _ = ⊥
