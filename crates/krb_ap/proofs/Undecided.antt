-- Calls that are answered with out of memory change no other answer.
use Rattle.std.proofs.Common.{◌≡◌, ◌≢◌, Bool, true, false, if◌then◌else◌, List, [], ◌∷◌, refl, sym, ◌∙◌, subst, arith, Ok, Err, Result}
use Rattle.krb_ap.specs.Setup.{Setup, Arrival, decided_now}
use Rattle.krb_ap.specs.Answer.{Answers, Run, after, after_refusal, taken_of}
use Rattle.krb_ap.specs.Undecided.{AreDecided, SayTheSame, SaysTheSame, decided_answers, decided_calls, is_decided}
use Rattle.krb_ap.specs.Inner.Facts.{Facts}
use Rattle.krb_ap.specs.declared.accepted.Accepted.{Accepted}
use Rattle.krb_ap.specs.declared.refusal.Refusal.{Refusal}
use Rattle.krb_ap.specs.declared.refusal.Refusal.TheVariants.{OutOfMemory}
use Rattle.krb_ap.proofs.OneAnswer.{not_both, one_place, one_taken}

abbrev Answer : Type 0
Answer = Result Accepted Refusal

lacking_after : (history : List Arrival) (call : Arrival) (r : Refusal) → is_decided (Err r) ≡ false → after_refusal history call r ≡ history
lacking_after history call r lacks = grind arith

named_after : (history : List Arrival) (call : Arrival) (r : Refusal) → is_decided (Err r) ≡ true → after_refusal history call r ≡ decided_now call ∷ history
named_after history call r decided = grind arith

-- the history stays, or it has one call more
pub undecided_after : (history : List Arrival) (call : Arrival) (a : Answer) → is_decided a ≡ false → after history call a ≡ history
undecided_after history call (Ok x) lacks = absurd (cc)
undecided_after history call (Err r) lacks = lacking_after history call r lacks

pub decided_after : (history : List Arrival) (call : Arrival) (a : Answer) → is_decided a ≡ true → after history call a ≡ decided_now call ∷ history
decided_after history call (Ok x) decided = refl
decided_after history call (Err r) decided = named_after history call r decided

named : (r : Refusal) → is_decided (Err r) ≡ true → r ≢ OutOfMemory
named r decided is = let lacks : false ≡ true = subst (λ (x : Refusal). is_decided (Err x) ≡ true) is decided in absurd (cc)

others_by : (setup : Setup) (history : List Arrival) (c : Arrival) (cs : List Arrival) (a : Answer) (rest : List Answer) (end : List Arrival)
    (b : Bool) → is_decided a ≡ b → Answers setup history c a → Run setup (after history c a) (decided_calls cs rest) (decided_answers rest) end
    → Run setup history (if b then c ∷ decided_calls cs rest else decided_calls cs rest) (if b then a ∷ decided_answers rest else decided_answers rest) end
others_by setup history c cs a rest end true is answers run = (answers, run)
others_by setup history c cs a rest end false is answers run =
    subst (λ (h : List Arrival). Run setup h (decided_calls cs rest) (decided_answers rest) end) (undecided_after history c a is) run

-- the decided calls alone
pub others : (setup : Setup) (history : List Arrival) (calls : List Arrival) (answers : List Answer) (end : List Arrival)
    → Run setup history calls answers end → Run setup history (decided_calls calls answers) (decided_answers answers) end
others setup history [] [] end run = run
others setup history (c ∷ cs) (a ∷ rest) end run =
    others_by setup history c cs a rest end (is_decided a) refl run.0 (others setup (after history c a) cs rest end run.1)
others setup history [] (a ∷ rest) end run = absurd run
others setup history (c ∷ cs) [] end run = absurd run

module _ (facts : Facts) (setup : Setup) where
  pub said : (history : List Arrival) (call : Arrival) (a o : Answer) → Answers setup history call a → Answers setup history call o
      → is_decided a ≡ true → is_decided o ≡ true → SaysTheSame a o
  said history call (Ok x) (Ok y) one other decided also = one_taken facts setup history call (taken_of y) (taken_of x) other one
  said history call (Ok x) (Err s) one other decided also = not_both facts setup history call (taken_of x) s one (other (named s also))
  said history call (Err r) (Ok y) one other decided also = not_both facts setup history call (taken_of y) r other (one (named r decided))
  said history call (Err r) (Err s) one other decided also = one_place facts setup history call r s (one (named r decided)) (other (named s also))

  abbrev Alike : List Arrival → List Arrival → List Answer → List Arrival → Type 0
  Alike history calls as_answered end = (others : List Answer) (other_end : List Arrival) → Run setup history calls others other_end
      → AreDecided others → SayTheSame as_answered others × (other_end ≡ end)

  alike_by : (history : List Arrival) (c : Arrival) (cs : List Arrival) (a : Answer) (rest : List Answer) (end : List Arrival) (b : Bool)
      → is_decided a ≡ b → Answers setup history c a → Alike (after history c a) (decided_calls cs rest) (decided_answers rest) end
      → Alike history (if b then c ∷ decided_calls cs rest else decided_calls cs rest) (if b then a ∷ decided_answers rest else decided_answers rest) end
  alike_by history c cs a rest end true is answers after_it [] other_end run decided = absurd run
  alike_by history c cs a rest end true is answers after_it (o ∷ os) other_end run decided =
      let left = after_it os other_end
      (subst (λ (h : List Arrival). Run setup h (decided_calls cs rest) os other_end) (decided_after history c o decided.0 ∙ sym (decided_after history c a is)) run.1) decided.1 in
      ((said history c a o answers run.0 is decided.0, left.0), left.1)
  alike_by history c cs a rest end false is answers after_it others other_end run decided =
      after_it others other_end (subst (λ (h : List Arrival). Run setup h (decided_calls cs rest) others other_end) (sym (undecided_after history c a is)) run) decided

  -- other answers to the decided calls alone say the same
  pub alike : (history : List Arrival) (calls : List Arrival) (answers : List Answer) (end : List Arrival) → Run setup history calls answers end
      → Alike history (decided_calls calls answers) (decided_answers answers) end
  alike history [] [] end run [] other_end alone decided = (tt, alone ∙ sym run)
  alike history [] [] end run (o ∷ os) other_end alone decided = absurd alone
  alike history (c ∷ cs) (a ∷ rest) end run others other_end alone decided =
      alike_by history c cs a rest end (is_decided a) refl run.0 (alike (after history c a) cs rest end run.1) others other_end alone decided
  alike history [] (a ∷ rest) end run others other_end alone decided = absurd run
  alike history (c ∷ cs) [] end run others other_end alone decided = absurd run
