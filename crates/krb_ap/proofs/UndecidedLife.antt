-- Calls that are answered with out of memory change no other answer, in the life of a service whose keytab is replaced.
use Rattle.std.proofs.Common.{◌≡◌, Bool, true, false, if◌then◌else◌, List, [], ◌∷◌, refl, sym, ◌∙◌, subst, Result}
use Rattle.krb_keytab.specs.Entry.{KeytabEntry}
use Rattle.krb_ap.specs.Setup.{Setup, Arrival, as_decided, with_entries}
use Rattle.krb_ap.specs.Answer.{Answers, after}
use Rattle.krb_ap.specs.Living.{Lives, Step, answers, renews}
use Rattle.krb_ap.specs.Undecided.{is_decided}
use Rattle.krb_ap.specs.UndecidedLife.{DecidesEach, SayTheSameInLife, decided_steps}
use Rattle.krb_ap.specs.Inner.Facts.{Facts}
use Rattle.krb_ap.specs.declared.accepted.Accepted.{Accepted}
use Rattle.krb_ap.specs.declared.refusal.Refusal.{Refusal}
use Rattle.krb_ap.proofs.Undecided.{decided_after, said, undecided_after}

abbrev Answer : Type 0
Answer = Result Accepted Refusal

steps_by : (setup : Setup) (history : List Arrival) (c : Arrival) (a : Answer) (rest : List Step) (b : Bool) → is_decided a ≡ b
    → Answers setup history c a → Lives setup (after history c a) rest → Lives setup history (if b then answers c a ∷ rest else rest)
steps_by setup history c a rest true is right lives = (right, lives)
steps_by setup history c a rest false is right lives = subst (λ (h : List Arrival). Lives setup h rest) (undecided_after history c a is) lives

-- the decided steps alone
pub other_steps : (setup : Setup) (history : List Arrival) (steps : List Step) → Lives setup history steps → Lives setup history (decided_steps steps)
other_steps setup history [] lives = tt
other_steps setup history (answers c a ∷ steps) lives =
    steps_by setup history c a (decided_steps steps) (is_decided a) refl lives.0 (other_steps setup (after history c a) steps lives.1)
other_steps setup history (renews entries ∷ steps) lives = other_steps (with_entries setup entries) (as_decided setup history) steps lives

module _ (facts : Facts) where
  abbrev AlikeInLife : Setup → List Arrival → List Step → Type 0
  AlikeInLife setup history steps = (others : List Step) → Lives setup history others → DecidesEach steps others → SayTheSameInLife steps others

  alike_steps_by : (setup : Setup) (history : List Arrival) (c : Arrival) (a : Answer) (rest : List Step) (b : Bool) → is_decided a ≡ b
      → Answers setup history c a → AlikeInLife setup (after history c a) rest → AlikeInLife setup history (if b then answers c a ∷ rest else rest)
  alike_steps_by setup history c a rest true is right after_it [] lives each = absurd each
  alike_steps_by setup history c a rest true is right after_it (renews entries ∷ others) lives each = absurd each
  alike_steps_by setup history c a rest true is right after_it (answers d o ∷ others) lives each = (
    said facts setup history c a o right (subst (λ (call : Arrival). Answers setup history call o) each.0 lives.0) is each.1.0,
    after_it others
        (subst (λ (h : List Arrival). Lives setup h others) (decided_after history c o each.1.0 ∙ sym (decided_after history c a is))
        (subst (λ (call : Arrival). Lives setup (after history call o) others) each.0 lives.1)) each.1.1,
  )
  alike_steps_by setup history c a rest false is right after_it others lives each =
      after_it others (subst (λ (h : List Arrival). Lives setup h others) (sym (undecided_after history c a is)) lives) each

  -- another service's answers to the decided steps alone say the same
  pub alike_steps : (setup : Setup) (history : List Arrival) (steps : List Step) → Lives setup history steps → AlikeInLife setup history (decided_steps steps)
  alike_steps setup history [] lives [] alone each = tt
  alike_steps setup history [] lives (o ∷ os) alone each = absurd each
  alike_steps setup history (answers c a ∷ steps) lives others alone each =
      alike_steps_by setup history c a (decided_steps steps) (is_decided a) refl lives.0 (alike_steps setup (after history c a) steps lives.1) others alone each
  alike_steps setup history (renews entries ∷ steps) lives [] alone each = absurd each
  alike_steps setup history (renews entries ∷ steps) lives (answers d o ∷ others) alone each = absurd each
  alike_steps setup history (renews entries ∷ steps) lives (renews other_entries ∷ others) alone each =
      alike_steps (with_entries setup entries) (as_decided setup history) steps lives others
      (subst (λ (own : List KeytabEntry). Lives (with_entries setup own) (as_decided setup history) others) each.0 alone) each.1
