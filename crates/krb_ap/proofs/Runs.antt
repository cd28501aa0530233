-- Runs of calls.
use Rattle.std.proofs.Common.{◌≡◌, ℕ, ◌<◌, ◌+◌, List, [], ◌∷◌, ◌++◌, ap, sym, ◌∙◌, subst, Result, length, map, take, get_or, Option, ℤ, Bool, Ok, Err, inl, inr}
use Rattle.std.specs.Prelude.{IsTrue, IsErrOf}
use Rattle.std.specs.List.{AllZip}
use Rattle.std.proofs.lemmas.List.{take_more, map-append}
use Rattle.std.proofs.lemmas.Slice.Zip.{all_zipped_more}
use Rattle.krb_replay.specs.Stamp.{Stamp}
use Rattle.krb_replay.specs.Memory.{SameStamps}
use Rattle.krb_ap.specs.History.{IsShown, IsShownLately, StandsFor}
use Rattle.krb_ap.proofs.Afterwards.{memory_or_not, refusal_of}
use Rattle.krb_ap.specs.declared.refusal.Refusal.TheVariants.{OutOfMemory}
use Rattle.krb_ap.specs.Setup.{Setup, Arrival}
use Rattle.krb_ap.specs.Answer.{Answers, Run, Served, after, after_refusal, arrival_of}
use Rattle.krb_ap.specs.declared.call.Call.{Call}
use Rattle.krb_ap.specs.declared.accepted.Accepted.{Accepted}
use Rattle.krb_ap.specs.declared.refusal.Refusal.{Refusal}

-- one call more
pub run_push : (setup : Setup) (history : List Arrival) (calls : List Arrival) (answers : List (Result Accepted Refusal)) (mid : List Arrival)
    (call : Arrival) (answer : Result Accepted Refusal) → Run setup history calls answers mid → Answers setup mid call answer
    → Run setup history (calls ++ call ∷ []) (answers ++ answer ∷ []) (after mid call answer)
run_push setup history [] [] mid call answer run answers = (subst (λ (h : List Arrival). Answers setup h call answer) run answers, ap (λ (h : List Arrival). after h call answer) run)
run_push setup history (c ∷ cs) (a ∷ rest) mid call answer run answers = (run.0, run_push setup (after history c a) cs rest mid call answer run.1 answers)
run_push setup history [] (a ∷ rest) mid call answer run answers = absurd run
run_push setup history (c ∷ cs) [] mid call answer run answers = absurd run

pub mapped : (calls : List Call) (i : ℕ) (call : Call) → i < length calls → call ≡ get_or calls i call
    → map arrival_of (take i calls) ++ arrival_of call ∷ [] ≡ map arrival_of (take (i + 1) calls)
mapped calls i call below is =
    ap (λ (x : Call). map arrival_of (take i calls) ++ arrival_of x ∷ []) is
    ∙ sym (ap (map arrival_of) (take_more calls i call below) ∙ map-append arrival_of (take i calls) (get_or calls i call ∷ []))

-- what is so of each call and its answer, and of one call more
pub each_more : (P : Arrival → Result Accepted Refusal → Type 0) (calls : List Arrival) (answers all : List (Result Accepted Refusal)) (whole : List Arrival)
    (call : Arrival) (answer : Result Accepted Refusal) → calls ++ call ∷ [] ≡ whole → all ≡ answers ++ answer ∷ [] → AllZip P calls answers → P call answer
    → AllZip P whole all
each_more P calls answers all whole call answer is_whole is_all each p = subst (AllZip P whole) (sym is_all)
    (subst (λ (l : List Arrival). AllZip P l (answers ++ answer ∷ [])) is_whole (all_zipped_more P calls answers call answer each p))

-- what a memory that forgets has after a call, also after one that was answered for memory
lately_after : (setup : Setup) (mid : List Arrival) (call : Arrival) (answer : Result Accepted Refusal) (Mid New : Stamp → Type 0)
    → (IsErrOf answer OutOfMemory → SameStamps Mid New)
    → ((IsErrOf answer OutOfMemory → ⊥) → SameStamps (IsShownLately setup (after mid call answer)) New)
    → SameStamps (IsShownLately setup mid) Mid → SameStamps (IsShownLately setup (after mid call answer)) New
lately_after setup mid call (Ok x) Mid New same forgets exact = forgets (λ e. cc)
lately_after setup mid call (Err r) Mid New same forgets exact = elim (memory_or_not r) [
  | inl memory ↦ subst (λ (s : Refusal). SameStamps (IsShownLately setup (after_refusal mid call s)) New) (sym memory)
      (λ stamp. (λ new. (exact stamp).0 ((same (ap Err memory) stamp).0 new), λ shown. (same (ap Err memory) stamp).1 ((exact stamp).1 shown)))
  | inr named ↦ forgets (λ e. named (refusal_of r OutOfMemory e))
]

-- what was served, and one call more
pub served_push : (keeping forgetting : Bool) (setup here next : Setup) (history : List Arrival) (calls : List Arrival)
    (answers all : List (Result Accepted Refusal)) (whole : List Arrival)
    (First Old New : Stamp → Type 0) (latest later : Option ℤ) (call : Arrival) (answer : Result Accepted Refusal)
    → here ≡ setup → next ≡ here → calls ++ call ∷ [] ≡ whole → all ≡ answers ++ answer ∷ []
    → ((mid : List Arrival) → StandsFor here Old latest mid → Answers here mid call answer)
    → ((mid : List Arrival) → StandsFor here Old latest mid → StandsFor next New later (after mid call answer))
    → (IsTrue keeping → (mid : List Arrival) → StandsFor here Old latest mid → SameStamps (IsShown here mid) Old → SameStamps (IsShown here (after mid call answer)) New)
    → (IsTrue forgetting → (mid : List Arrival) → StandsFor here Old latest mid → (IsErrOf answer OutOfMemory → ⊥) → SameStamps (IsShownLately here (after mid call answer)) New)
    → (IsErrOf answer OutOfMemory → SameStamps Old New)
    → Served keeping forgetting setup history calls answers First Old latest → Served keeping forgetting setup history whole all First New later
served_push keeping forgetting setup here next history calls answers all whole First Old New latest later call answer is_here is_next is_whole is_all answered goes_on keeps forgets unchanged served =
    let stands : StandsFor here Old latest served.end = subst (λ (s : Setup). StandsFor s Old latest served.end) (sym is_here) served.stands in
    record {
      end = after served.end call answer;
      run = subst (λ (l : List (Result Accepted Refusal)). Run setup history whole l (after served.end call answer)) (sym is_all)
          (subst (λ (l : List Arrival). Run setup history l (answers ++ answer ∷ []) (after served.end call answer)) is_whole
          (run_push setup history calls answers served.end call answer served.run
          (subst (λ (s : Setup). Answers s served.end call answer) is_here (answered served.end stands))));
      stands = subst (λ (s : Setup). StandsFor s New later (after served.end call answer)) (is_next ∙ is_here) (goes_on served.end stands);
      keeps = λ keeping exact. subst (λ (s : Setup). SameStamps (IsShown s (after served.end call answer)) New) is_here
          (keeps keeping served.end stands (subst (λ (s : Setup). SameStamps (IsShown s served.end) Old) (sym is_here) (served.keeps keeping exact)));
      forgets = λ forgetting exact. subst (λ (s : Setup). SameStamps (IsShownLately s (after served.end call answer)) New) is_here
          (lately_after here served.end call answer Old New unchanged (forgets forgetting served.end stands)
          (subst (λ (s : Setup). SameStamps (IsShownLately s served.end) Old) (sym is_here) (served.forgets forgetting exact)));
    }
