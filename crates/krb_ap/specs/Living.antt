-- A living service whose keytab is replaced, however often. It keeps what it has seen, the latest
-- moment, its skew and its start.
use Rattle.std.specs.Prelude.{◌⊎◌, List, [], ◌∷◌, Result}
use Rattle.krb_keytab.specs.Entry.{KeytabEntry}
use Rattle.krb_replay.specs.Stamp.{Stamp}
use Rattle.krb_ap.specs.Setup.{Setup, Arrival, as_decided, with_entries}
use Rattle.krb_ap.specs.Answer.{Answers, after}
use Rattle.krb_ap.specs.Once.{Takes}
use Rattle.krb_ap.specs.declared.accepted.Accepted.{Accepted}
use Rattle.krb_ap.specs.declared.refusal.Refusal.{Refusal}

-- what happens to it: a call is answered, or it gets a keytab of these entries
pub data Step : Type 0 where
  answers : Arrival → Result Accepted Refusal → Step
  renews : List KeytabEntry → Step

-- from a history on, each call is answered as it has to be by the keytab of its time
abbrev pub Lives : Setup → List Arrival → List Step → Type 0
Lives setup history [] = Unit {0}
Lives setup history (answers call answer ∷ steps) = Answers setup history call answer × Lives setup (after history call answer) steps
Lives setup history (renews entries ∷ steps) = Lives (with_entries setup entries) (as_decided setup history) steps

-- a request of this stamp is accepted in one of these steps
abbrev pub TakesInLife : Setup → List Step → Stamp → Type 0
TakesInLife setup [] stamp = ⊥
TakesInLife setup (answers call answer ∷ steps) stamp = Takes setup call answer stamp ⊎ TakesInLife setup steps stamp
TakesInLife setup (renews entries ∷ steps) stamp = TakesInLife (with_entries setup entries) steps stamp

-- no stamp is accepted in two of them
abbrev pub TakesOnceInLife : Setup → List Step → Type 0
TakesOnceInLife setup [] = Unit {0}
TakesOnceInLife setup (answers call answer ∷ steps) =
    ((stamp : Stamp) → Takes setup call answer stamp → ¬ TakesInLife setup steps stamp) × TakesOnceInLife setup steps
TakesOnceInLife setup (renews entries ∷ steps) = TakesOnceInLife (with_entries setup entries) steps
