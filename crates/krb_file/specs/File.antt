-- Files that are read from a source: how long they may be, what is taken of the source, and what is
-- answered.
use Rattle.std.specs.Prelude.{◌≡◌, ◌≢◌, ◌⊎◌, ℕ, ◌+◌, ◌≤◌, List, length, Option, Some, Result, Ok, Err, IfOk, IfErr, IfSome, OnOk}
use Rattle.std.specs.Io.KnownBytes.{Consumes, IsAtEnd}
use Rattle.krb_file.specs.declared.reading.ReadFault.{ReadFault}
use Rattle.krb_file.specs.declared.reading.ReadFault.TheVariants.{Read, OutOfMemory}

-- how many bytes a file may have
abbrev pub file_limit : ℕ
file_limit = 16777216

-- the fault of a file whose source couldn't be read: the first if memory ran out, else the second
abbrev pub fault_of_read : {F : Type 0} → F → F → ReadFault → F
fault_of_read memory failed OutOfMemory = memory
fault_of_read memory failed Read = failed

-- a source gave at most so many bytes; what is left is a tail of what it still had
pub record TakesAtMost (old new : Option (List ℕ)) (count : ℕ) : Type 0 where
  pub piece : List ℕ
  pub taken : Consumes old new piece
  pub within : length piece ≤ count

-- a source was read as a file: it gave at most one byte past the limit
abbrev pub TakesFile : Option (List ℕ) → Option (List ℕ) → Type 0
TakesFile old new = TakesAtMost old new (file_limit + 1)

-- a source gave bytes of a file, in all as many as the first number before and as the second now,
-- and at most one byte past the limit
pub record GivesWithin (from to : Option (List ℕ)) (old new : ℕ) : Type 0 where
  pub piece : List ℕ
  pub taken : Consumes from to piece
  pub given : new ≡ old + length piece
  pub within : old ≤ file_limit + 1 → new ≤ file_limit + 1

-- the bytes that a source gave, up to its end or to one byte past the limit of a file
pub record IsGiven (old new : Option (List ℕ)) (bytes : List ℕ) : Type 0 where
  pub given : Consumes old new bytes
  pub limit : length bytes ≤ file_limit + 1
  pub end : length bytes ≤ file_limit → IsAtEnd new

-- The bytes of a source were read as a file, and each list of bytes has an answer: a value or a
-- fault. Two faults say nothing about the bytes, lack of memory and a failed read; they may take
-- the place of any answer. Whatever the answer, the source gave at most one byte past the limit.
pub record ReadsFile {T F : Type 0} (IsAnswerOf : List ℕ → Result T F → Type 0) (memory failed : F) (from to : Option (List ℕ)) (result : Result T F) : Type 0 where
  pub found : IfOk result (λ value. IfSome from (λ bytes. IsAnswerOf bytes (Ok value)))
  pub end : OnOk result (IsAtEnd to)
  pub fault : IfErr result (λ fault. fault ≢ memory → fault ≢ failed → IfSome from (λ bytes. IsAnswerOf bytes (Err fault)))
  pub only : (bytes : List ℕ) (answer : Result T F) → from ≡ Some bytes → IsAnswerOf bytes answer
      → (result ≡ answer) ⊎ ((result ≡ Err memory) ⊎ (result ≡ Err failed))
  pub given : result ≢ Err memory → result ≢ Err failed → (bytes : List ℕ) × IsGiven from to bytes × IsAnswerOf bytes result
  pub taken : TakesFile from to
