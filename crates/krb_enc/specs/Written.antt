-- Bytes that are written to a slice.
use Rattle.std.specs.Prelude.{◌≡◌, ◌≤◌, ◌<◌, ℕ, List, ◌++◌, length, drop, Result, Ok, Err}

-- If there is room, the bytes are at the slice's start, the rest of it is unchanged, and their
-- number is returned. Otherwise the slice is unchanged, and the error has their number.
pub record IsWritten (E : Type 0) (short_by : ℕ → E) (bytes old new : List ℕ) (result : Result ℕ E) : Type 0 where
  pub fits : length bytes ≤ length old → (result ≡ Ok (length bytes)) × (new ≡ bytes ++ drop (length bytes) old)
  pub short : length old < length bytes → (result ≡ Err (short_by (length bytes))) × (new ≡ old)
