-- Bytes that are written to a slice, or don't fit it.
use Rattle.std.proofs.Common.{◌≡◌, ◌≤◌, ◌<◌, ◌+◌, ℕ, List, ◌++◌, length, drop, Ok, Err, refl, sym, ap, ◌∙◌, append_assoc, arith}
use Rattle.std.proofs.lemmas.List.{drop-drop}
use Rattle.krb_enc.specs.Written.{IsWritten}

pub written : (E : Type 0) (short_by : ℕ → E) (bytes old new : List ℕ) (size : ℕ) → size ≡ length bytes → size ≤ length old → new ≡ bytes ++ drop size old
    → IsWritten E short_by bytes old new (Ok size)
written E short_by bytes old new size is fits new_is = record {
  fits = λ _. (ap Ok is, new_is ∙ ap (λ (n : ℕ). bytes ++ drop n old) is);
  short = λ less. absurd (omega (arith, is, fits, less));
}

pub not_written : (E : Type 0) (short_by : ℕ → E) (bytes old : List ℕ) (size : ℕ) → size ≡ length bytes → length old < size
    → IsWritten E short_by bytes old old (Err (short_by size))
not_written E short_by bytes old size is less = record {
  fits = λ fits. absurd (omega (arith, is, fits, less));
  short = λ _. (ap (λ (n : ℕ). Err (short_by n)) is, refl);
}

-- a part, another after it, and what stood after both
pub two_parts : (one other old : List ℕ) (at size : ℕ) → one ++ (other ++ drop size (drop at old)) ≡ (one ++ other) ++ drop (at + size) old
two_parts one other old at size =
    sym (append_assoc one other (drop size (drop at old))) ∙ ap (λ (t : List ℕ). (one ++ other) ++ t) (drop-drop size at old)
