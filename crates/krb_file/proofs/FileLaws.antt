-- Bytes of a file that a source gave in parts, and what is answered for them.
use Rattle.std.proofs.Common.{◌≡◌, ◌⊎◌, ℕ, ◌<◌, ◌≤◌, List, [], ◌++◌, length, Option, Some, None, Result, Ok, Err, sym, ap, subst, ◌∙◌, append-nil, arith, inl, inr}
use Rattle.std.specs.Prelude.{◌≢◌, IfSome, IfOk, IfErr}
use Rattle.std.proofs.KnownBytes.{Consumes-trans, Consumes-nil}
use Rattle.std.proofs.lemmas.Bool.{cases_lt}
use Rattle.std.proofs.lemmas.List.{length-append}
use Rattle.krb_file.specs.File.{file_limit, IsGiven, TakesFile, GivesWithin, ReadsFile}

pub gives_none : (from : Option (List ℕ)) (given : ℕ) → GivesWithin from from given given
gives_none from given = record { piece = []; taken = Consumes-nil from; given = omega arith; within = λ l. l }

pub gives_then : (from mid to : Option (List ℕ)) (old between new : ℕ) → GivesWithin from mid old between → GivesWithin mid to between new → GivesWithin from to old new
gives_then from mid to old between new p q = record {
  piece = p.piece ++ q.piece;
  taken = Consumes-trans from mid to p.piece q.piece p.taken q.taken;
  given = omega (arith, p.given, q.given, length-append p.piece q.piece);
  within = λ l. q.within (p.within l);
}

-- nothing was given before
pub takes_file : (from to : Option (List ℕ)) (old new : ℕ) → old ≡ 0 → GivesWithin from to old new → TakesFile from to
takes_file from to old new start g = record { piece = g.piece; taken = g.taken; within = let l = g.within (omega (arith, start)) in omega (arith, l, g.given, start) }

-- ---- what is answered for the bytes that a source gave

-- all the bytes are those that were given, or both are too many
all_given : (whole bytes : List ℕ) (to : Option (List ℕ)) → IsGiven (Some whole) to bytes → (whole ≡ bytes) ⊎ ((file_limit < length whole) × (file_limit < length bytes))
all_given whole bytes None g = absurd g.given
all_given whole bytes (Some rest) g =
    elim (cases_lt file_limit (length bytes)) [
      | inl long ↦ inr (omega (arith, ap length g.given, length-append bytes rest), long)
      | inr within ↦ inl (g.given ∙ ap (λ (t : List ℕ). bytes ++ t) (g.end within) ∙ append-nil bytes)
    ]

-- Bytes have one answer. If they are too many, it is a fault, and that of all that are too many. A
-- fault says something of the bytes, or it is one of the two that don't.
pub record AnswersFiles {T F : Type 0} (IsAnswerOf : List ℕ → Result T F → Type 0) (memory failed : F) : Type 0 where
  pub one : (bytes : List ℕ) (answer other : Result T F) → IsAnswerOf bytes answer → IsAnswerOf bytes other → answer ≡ other
  pub long : (bytes more : List ℕ) (answer : Result T F) → file_limit < length bytes → file_limit < length more → IsAnswerOf bytes answer → IsAnswerOf more answer
  pub limit : (bytes : List ℕ) (value : T) → IsAnswerOf bytes (Ok value) → length bytes ≤ file_limit
  pub kind : (fault : F) → ((fault ≢ memory) × (fault ≢ failed)) ⊎ ((fault ≡ memory) ⊎ (fault ≡ failed))

abbrev refused : {T F : Type 0} → F → Result T F
refused fault = Err fault

module _ {T F : Type 0} {IsAnswerOf : List ℕ → Result T F → Type 0} {memory failed : F} (answers : AnswersFiles IsAnswerOf memory failed) where
  same_answer : (bytes more : List ℕ) (answer : Result T F) → (bytes ≡ more) ⊎ ((file_limit < length bytes) × (file_limit < length more)) → IsAnswerOf bytes answer → IsAnswerOf more answer
  same_answer bytes more answer (inl same) a = subst (λ (t : List ℕ). IsAnswerOf t answer) same a
  same_answer bytes more answer (inr long) a = answers.long bytes more answer long.0 long.1 a

  -- an answer for what was given is one for all the bytes that were to come
  pub answer_known : (from to : Option (List ℕ)) (bytes : List ℕ) (answer : Result T F) → IsGiven from to bytes → IsAnswerOf bytes answer → IfSome from (λ whole. IsAnswerOf whole answer)
  answer_known None to bytes answer g a = tt
  answer_known (Some whole) to bytes answer g a = same_answer bytes whole answer (elim (all_given whole bytes to g) [ inl same ↦ inl (sym same) | inr long ↦ inr (long.1, long.0) ]) a

  -- and no other answer is one for all
  only_given : (from to : Option (List ℕ)) (bytes whole : List ℕ) (result answer : Result T F) → IsGiven from to bytes → IsAnswerOf bytes result → from ≡ Some whole → IsAnswerOf whole answer → result ≡ answer
  only_given from to bytes whole result answer g r known a =
      answers.one bytes result answer r (same_answer whole bytes answer (all_given whole bytes to (subst (λ (o : Option (List ℕ)). IsGiven o to bytes) known g)) a)

  pub reads_whole : (from to : Option (List ℕ)) (result : Result T F) → IfOk result (λ value. (bytes : List ℕ) × IsGiven from to bytes × IsAnswerOf bytes (Ok value))
      → IfErr result (λ fault. fault ≢ memory → fault ≢ failed → (bytes : List ℕ) × IsGiven from to bytes × IsAnswerOf bytes (Err fault)) → TakesFile from to → ReadsFile IsAnswerOf memory failed from to result
  reads_whole from to (Ok value) g none taken = record {
    found = answer_known from to g.0 (Ok value) g.1 g.2;
    end = g.1.end (answers.limit g.0 value g.2);
    fault = tt;
    only = λ whole answer known a. inl (only_given from to g.0 whole (Ok value) answer g.1 g.2 known a);
    given = λ _ _. g;
    taken = taken;
  }
  reads_whole from to (Err fault) none gives taken = record {
    found = tt;
    end = tt;
    fault = λ content read. let g = gives content read in answer_known from to g.0 (Err fault) g.1 g.2;
    only = λ whole answer known a. elim (answers.kind fault) [
      | inl content ↦ let g = gives content.0 content.1 in inl (only_given from to g.0 whole (Err fault) answer g.1 g.2 known a)
      | inr (inl lacking) ↦ inr (inl (ap (λ (f : F). refused f) lacking))
      | inr (inr lost) ↦ inr (inr (ap (λ (f : F). refused f) lost))
    ];
    given = λ content read. gives (λ is. content (ap (λ (f : F). refused f) is)) (λ is. read (ap (λ (f : F). refused f) is));
    taken = taken;
  }
