-- Which things of a list have other names.
use Rattle.std.specs.Prelude.{ℕ, ◌<◌, ◌≤◌, List, length, slice_index_or}
use Rattle.krb_name.specs.Named.{HasOtherName}
use Rattle.krb_name.specs.declared.principal.Principal.{Principal}

-- those from an index on, before another
abbrev pub OthersBetween : {X : Type 0} → (X → Principal) → List X → Principal → ℕ → ℕ → Type 0
OthersBetween {X} name_of items name from to = (k : ℕ) (one : X) → from ≤ k → k < to → k < length items → HasOtherName name_of name (slice_index_or items k one)
