-- What it means that a way of reading is the inverse of a way of spelling.
use Rattle.std.specs.Prelude.{◌≡◌, ℕ, ◌+◌, ◌<◌, List, ◌++◌, length, slice_index, Option, Some}
use Rattle.std.specs.List.{AllByRecursion}
use Rattle.krb_file.specs.Cursor.{Place}

-- each number of the list is a byte
abbrev pub IsBytes : List ℕ → Type 0
IsBytes bytes = (index : ℕ) → slice_index bytes index < 256

-- the bytes at a place are a text and then those at the place after it
pub record Takes (place : Place) (text : List ℕ) (behind : Place) : Type 0 where
  pub parts : place.rest ≡ text ++ behind.rest
  pub at : behind.at ≡ place.at + length text
  pub text_fits : IsBytes text
  pub rest_fits : IsBytes behind.rest

-- what is read at a place is spelled there and is in range, and what is in range and spelled there
-- is read
pub record IsField {X : Type 0} (read : Place → Option (X × Place)) (spelled : X → List ℕ) (InRange : X → Type 0) : Type 0 where
  pub takes : (place : Place) (x : X) (behind : Place) → IsBytes place.rest → read place ≡ Some (x, behind)
      → Takes place (spelled x) behind × InRange x
  pub again : (at : ℕ) (x : X) (rest : List ℕ) → InRange x
      → read (record { at = at; rest = spelled x ++ rest }) ≡ Some (x, record { at = at + length (spelled x); rest = rest })

-- so many strings of bytes, each shorter than the limit
abbrev pub AreDataOf : ℕ → ℕ → List (List ℕ) → Type 0
AreDataOf count limit strings = (length strings ≡ count) × AllByRecursion (λ bytes. length bytes < limit) strings
