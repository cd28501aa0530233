-- How components are held: each after its length, a number of 32 bits.
use Rattle.std.specs.Prelude.{◌≡◌, ◌<◌, ◌^◌, ℕ, List, [], length, Option, Some, None}
use Rattle.std.specs.List.{flat_map, AllByRecursion}
use Rattle.std.specs.Int.{w32}
use Rattle.krb_file.specs.Cursor.{Place, data_at, data_bytes, times_at}

-- so many components at the front of these bytes
abbrev pub components_at : ℕ → List ℕ → Option (List (List ℕ) × Place)
components_at count bytes = times_at (data_at w32) count (record { at = 0; rest = bytes })

-- the components that were read
abbrev pub listed : Option (List (List ℕ) × Place) → List (List ℕ)
listed None = []
listed (Some read) = read.0

-- something was read
abbrev pub IsRead : Option (List (List ℕ) × Place) → Type 0
IsRead read = (x : List (List ℕ) × Place) × (read ≡ Some x)

-- the bytes are those of so many components
pub record AreHeld (count : ℕ) (bytes : List ℕ) : Type 0 where
  pub components : List (List ℕ)
  pub count_is : length components ≡ count
  pub small : AllByRecursion (λ component. length component < 2 ^ 32) components
  pub bytes_are : bytes ≡ flat_map (data_bytes w32) components
