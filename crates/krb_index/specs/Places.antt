-- The first place in a list of numbers at which something holds. Places are counted from 0.
use Rattle.std.specs.Prelude.{◌≡◌, ◌≢◌, ℕ, ◌<◌, ◌≤◌, List, length, slice_index}

-- the first number that is at least another
pub record IsFirstAtLeast (numbers : List ℕ) (least at : ℕ) : Type 0 where
  pub within : at < length numbers
  pub before : (k : ℕ) → k < at → slice_index numbers k < least
  pub here : least ≤ slice_index numbers at

-- the first number, from a place on, that is equal to another
pub record IsFirstEqual (numbers : List ℕ) (number from at : ℕ) : Type 0 where
  pub within : at < length numbers
  pub forward : from ≤ at
  pub between : (k : ℕ) → from ≤ k → k < at → slice_index numbers k ≢ number
  pub here : slice_index numbers at ≡ number

-- from a place on, none is equal to another
abbrev pub NoneEqual : List ℕ → ℕ → ℕ → Type 0
NoneEqual numbers number from = (k : ℕ) → from ≤ k → k < length numbers → slice_index numbers k ≢ number
