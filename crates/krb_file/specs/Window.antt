-- The bytes of a source that are held, and what happens to those that it gives.
use Rattle.std.specs.Prelude.{◌≡◌, ℕ, ◌+◌, ◌<◌, ◌≤◌, Bool, true, false, max, List, ◌++◌, length, Option, Result, Ok, Err}
use Rattle.std.specs.Io.KnownBytes.{Consumes, IsAtEnd}
use Rattle.krb_file.specs.declared.reading.ReadFault.{ReadFault}
use Rattle.krb_file.specs.declared.source.SourceFailed.{SourceFailed}

-- a source, those of its bytes that are held, the most that were held at once, and how many it has
-- given in all
pub record AtHand (S : Type 0) : Type 0 where
  pub source : S
  pub bytes : List ℕ
  pub peak : ℕ
  pub given : ℕ

-- the source gave these bytes, and they are held after the others
pub record Keeps {S : Type 0} (from to : Option (List ℕ)) (old new : AtHand S) (piece : List ℕ) : Type 0 where
  pub consumed : Consumes from to piece
  pub bytes : new.bytes ≡ old.bytes ++ piece
  pub peak : new.peak ≡ max old.peak (length new.bytes)
  pub given : new.given ≡ old.given + length piece

-- the source gave these bytes, and what is held is unchanged
pub record Skips {S : Type 0} (from to : Option (List ℕ)) (old new : AtHand S) (piece : List ℕ) : Type 0 where
  pub consumed : Consumes from to piece
  pub bytes : new.bytes ≡ old.bytes
  pub peak : new.peak ≡ old.peak
  pub given : new.given ≡ old.given + length piece

-- how many bytes came: as many as were asked for; or fewer, if the source ended; or fewer, if it
-- failed or memory ran out
abbrev pub CameOf : {E : Type 0} → Result Bool E → ℕ → List ℕ → Option (List ℕ) → Type 0
CameOf (Ok true) count piece to = length piece ≡ count
CameOf (Ok false) count piece to = (length piece < count) × IsAtEnd to
CameOf (Err _) count piece to = length piece < count

-- bytes were asked for, and what came is held
pub record Fills {S : Type 0} (from to : Option (List ℕ)) (old new : AtHand S) (count : ℕ) (answer : Result Bool ReadFault) : Type 0 where
  pub piece : List ℕ
  pub keeps : Keeps from to old new piece
  pub came : CameOf answer count piece to

-- bytes were asked for, and none of them are held
pub record Passes {S : Type 0} (from to : Option (List ℕ)) (old new : AtHand S) (count : ℕ) (answer : Result Bool SourceFailed) : Type 0 where
  pub piece : List ℕ
  pub skips : Skips from to old new piece
  pub came : CameOf answer count piece to

-- a source ended within a limit, or gave a byte past it
abbrev pub EndsWithin : Result Bool SourceFailed → ℕ → ℕ → Option (List ℕ) → Type 0
EndsWithin (Ok true) limit given to = (given ≤ limit) × IsAtEnd to
EndsWithin (Ok false) limit given to = limit < given
EndsWithin (Err _) limit given to = given ≤ limit

-- a source was read to its end, or to one byte past a limit, if it hadn't given so many before; what
-- is held is unchanged
pub record RunsOut {S : Type 0} (from to : Option (List ℕ)) (old new : AtHand S) (limit : ℕ) (answer : Result Bool SourceFailed) : Type 0 where
  pub piece : List ℕ
  pub skips : Skips from to old new piece
  pub ends : EndsWithin answer limit new.given to
  pub one_past : new.given ≤ max old.given (limit + 1)
