-- The answer for what a source gave is the answer for all the bytes that were to come of it.
use Rattle.std.proofs.Common.{◌≡◌, ◌⊎◌, ℕ, ◌<◌, ◌≤◌, List, length, Option, Some, None, Result, Err, refl, ap, subst, ◌∙◌, arith, inl, inr}
use Rattle.std.specs.Prelude.{◌≢◌}
use Rattle.std.proofs.lemmas.List.{length-append}
use Rattle.krb_file.specs.File.{file_limit, IsGiven}
use Rattle.krb_file.specs.Flow.{counted}
use Rattle.krb_file.proofs.FileLaws.{AnswersFiles, answer_known}
use Rattle.krb_ccache.specs.Types.{Layout, CacheFault, TooLong, Read, OutOfMemory}
use Rattle.krb_ccache.specs.Value.{Cache}
use Rattle.krb_ccache.specs.Fault.{failed_reads}
use Rattle.krb_ccache.specs.Format.{IsFaultOf, IsAnswerOf}
use Rattle.krb_ccache.specs.Reader.{HasTaken, GaveFault}
use Rattle.krb_ccache.proofs.LayoutLaws.{reached_end}
use Rattle.krb_ccache.proofs.AnswerLaws.{one_answer}

-- an answer for too many bytes
long_answer : (bytes more : List ℕ) (answer : Result Cache CacheFault) → file_limit < length bytes → file_limit < length more → IsAnswerOf bytes answer → IsAnswerOf more answer
long_answer bytes more answer long longer a = subst (IsAnswerOf more) (one_answer bytes (Err TooLong) answer long a) longer

fault_kind : (fault : CacheFault) → ((fault ≢ OutOfMemory) × (fault ≢ Read)) ⊎ ((fault ≡ OutOfMemory) ⊎ (fault ≡ Read))
fault_kind OutOfMemory = inr (inl refl)
fault_kind Read = inr (inr refl)
fault_kind _ = inl (λ e. cc, λ e. cc)

pub cache_answers : AnswersFiles IsAnswerOf OutOfMemory Read
cache_answers = record { one = one_answer; long = long_answer; limit = λ bytes cache is. is.limit; kind = fault_kind }

pub answer_of_whole : (whole bytes : List ℕ) (to : Option (List ℕ)) (answer : Result Cache CacheFault) → IsGiven (Some whole) to bytes → IsAnswerOf bytes answer → IsAnswerOf whole answer
answer_of_whole whole bytes to answer g a = answer_known cache_answers (Some whole) to bytes answer g a

-- ---- bytes in memory, of which no read fails

pub fault_of_slice : (T : Type 0) (whole : List ℕ) (to : Option (List ℕ)) (fault : CacheFault) → GaveFault (Some whole) to fault → fault ≢ OutOfMemory → 0 ≡ counted 0 (failed_reads {T = T} (Err fault)) → IsFaultOf whole fault
fault_of_slice T whole to fault gave memory unfailed =
    let given = gave memory (λ is. let one : 0 ≡ counted 0 1 = unfailed ∙ ap (λ (f : CacheFault). counted 0 (failed_reads {T = T} (Err f))) is in omega (arith, one)) in
    answer_of_whole whole given.0 to (Err fault) given.1 given.2

pub taken_length : (layout : Layout) (whole : List ℕ) (to : Option (List ℕ)) (at : ℕ) (cache : Cache) → HasTaken layout (Some whole) to at cache → at ≤ length whole
taken_length layout whole None at cache h = absurd h.taken
taken_length layout whole (Some rest) at cache h = omega (arith, reached_end layout h.bytes at cache h.reached, ap length h.taken, length-append h.bytes rest)
