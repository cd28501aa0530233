-- What one read, or some of them, leave at hand.
use Rattle.std.specs.Prelude.{◌≡◌, ℕ, ◌+◌, ◌≤◌, max, List, [], ◌++◌, length, take, Option, Result, Ok, Err}
use Rattle.std.specs.Io.KnownBytes.{Consumes, IsAtEnd}
use Rattle.krb_file.specs.Window.{AtHand, Skips}

-- what one read gave, none only at the end, or where it failed
abbrev pub OneRead : {E : Type 0} → Result ℕ E → ℕ → List ℕ → Option (List ℕ) → Type 0
OneRead (Ok count) most piece to = (length piece ≡ count) × (count ≤ most) × (count ≡ 0 → IsAtEnd to)
OneRead (Err _) most piece to = piece ≡ []

-- how many bytes one read gave
abbrev pub came_of : {E : Type 0} → Result ℕ E → ℕ
came_of (Ok count) = count
came_of (Err _) = 0

-- one read put what it gave at a place in a list, and what is before that stays
pub record ReadsAt {E : Type 0} (from to : Option (List ℕ)) (old new : List ℕ) (at most : ℕ) (answer : Result ℕ E) : Type 0 where
  pub piece : List ℕ
  pub consumed : Consumes from to piece
  pub within : at + came_of answer ≤ length new
  pub bytes : take (at + came_of answer) new ≡ take at old ++ piece
  pub one : OneRead answer most piece to

-- what one read gave, and what became of what is held
pub record ComesOnce {S E : Type 0} (Comes : Option (List ℕ) → Option (List ℕ) → AtHand S → AtHand S → List ℕ → Type 0) (from to : Option (List ℕ)) (old new : AtHand S) (most : ℕ) (answer : Result ℕ E) : Type 0 where
  pub piece : List ℕ
  pub comes : Comes from to old new piece
  pub one : OneRead answer most piece to

-- reads, none of which failed, gave this, and so many bytes are still to come
pub record ComesSoFar {S : Type 0} (Comes : Option (List ℕ) → Option (List ℕ) → AtHand S → AtHand S → List ℕ → Type 0) (remaining : S → Option (List ℕ)) (failure_count lender : S → ℕ) (old new : AtHand S) (count left : ℕ) : Type 0 where
  pub piece : List ℕ
  pub comes : Comes (remaining old.source) (remaining new.source) old new piece
  pub counted : length piece + left ≡ count
  pub unfailed : failure_count new.source ≡ failure_count old.source
  pub lent : lender new.source ≡ lender old.source

-- at most one byte past a limit was given, or what was given before
pub record SkipsWithin {S : Type 0} (from to : Option (List ℕ)) (old new : AtHand S) (limit : ℕ) : Type 0 where
  pub piece : List ℕ
  pub skips : Skips from to old new piece
  pub one_past : new.given ≤ max old.given (limit + 1)
