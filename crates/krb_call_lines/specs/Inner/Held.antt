-- The line that is being read, and what is kept of it.
use Rattle.std.specs.Prelude.{◌≡◌, ◌⊎◌, ◌<◌, ◌≤◌, ℕ, List, [], length, true, false}
use Rattle.krb_call_lines.specs.CallLine.{line_limit}
use Rattle.krb_call_lines.specs.declared.part_line.PartLine.{PartLine}

-- the whole line
pub record HoldsAll (part : PartLine) (line : List ℕ) : Type 0 where
  pub short : part.too_long ≡ false
  pub bytes_are : part.bytes.items ≡ line
  pub limit : length line ≤ line_limit

-- nothing of a line that is too long
pub record HoldsNothing (part : PartLine) (line : List ℕ) : Type 0 where
  pub long : part.too_long ≡ true
  pub bytes_are : part.bytes.items ≡ []
  pub limit : line_limit < length line

abbrev pub Holds : PartLine → List ℕ → Type 0
Holds part line = HoldsAll part line ⊎ HoldsNothing part line
