-- How a time is removed, if it is there and isn't the only one.
use Rattle.std.specs.Prelude.{◌≡◌, ◌<◌, ℤ, Bool, true, false, List, ◌∷◌, Contains, length}
use Rattle.std.specs.List.Sorted.{IsPermutation}

-- the answer says whether the time was removed
pub record Removes (old : List ℤ) (time : ℤ) (answer : Bool) (new : List ℤ) : Type 0 where
  pub there : answer ≡ true → Contains old time
  pub others : answer ≡ true → 1 < length old
  pub always : Contains old time → 1 < length old → answer ≡ true
  pub removed : answer ≡ true → IsPermutation old (time ∷ new)
  pub kept : answer ≡ false → new ≡ old
