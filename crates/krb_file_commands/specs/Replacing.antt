-- A file, and a new one beside it that is to take its place; and what each step of that does.
use Rattle.std.specs.Prelude.{◌≡◌, List, [], ◌++◌, ℕ, Bool, true, false, Option, Some, None, IfSome, option_map}

-- What each of the two holds, if it is there; and whether the disk has what the new one holds.
pub record TwoFiles : Type 0 where
  pub held : Option (List ℕ)
  pub fresh : Option (List ℕ)
  pub synced : Bool

-- ---- what a step makes of them

abbrev pub created : TwoFiles → TwoFiles
created files = record { held = files.held; fresh = Some []; synced = false }

abbrev pub with_bytes : List ℕ → Option (List ℕ) → Option (List ℕ)
with_bytes bytes None = None
with_bytes bytes (Some before) = Some (before ++ bytes)

abbrev pub written : List ℕ → TwoFiles → TwoFiles
written bytes files = record { held = files.held; fresh = with_bytes bytes files.fresh; synced = false }

abbrev pub synced : TwoFiles → TwoFiles
synced files = record { held = files.held; fresh = files.fresh; synced = true }

-- the new file takes the place of the old one
abbrev pub renamed : TwoFiles → TwoFiles
renamed files = record { held = files.fresh; fresh = None; synced = files.synced }

abbrev pub removed : TwoFiles → TwoFiles
removed files = record { held = files.held; fresh = None; synced = false }

-- if the files are known, these are what the step makes of those
abbrev pub Becomes : (TwoFiles → TwoFiles) → Option TwoFiles → Option TwoFiles → Type 0
Becomes step old new = new ≡ option_map step old

abbrev pub held_of : TwoFiles → Option (List ℕ)
held_of files = files.held

-- the file holds what it held
abbrev pub Stays : Option TwoFiles → Option TwoFiles → Type 0
Stays old new = option_map held_of new ≡ option_map held_of old

-- the disk has what the new file holds
abbrev pub IsSafe : Option TwoFiles → Type 0
IsSafe files = IfSome files (λ two. two.synced ≡ true)

-- ---- what a replacement makes of them

-- the file holds these bytes, and there is no other
abbrev pub Holds : List ℕ → Option TwoFiles → Type 0
Holds bytes files = IfSome files (λ two. (two.held ≡ Some bytes) × (two.fresh ≡ None))

-- there is no new file
abbrev pub IsAlone : Option TwoFiles → Type 0
IsAlone files = IfSome files (λ two. two.fresh ≡ None)

-- the new file holds no byte
abbrev pub IsEmpty : Option TwoFiles → Type 0
IsEmpty files = IfSome files (λ two. two.fresh ≡ Some [])
