-- How the text of the components is written one after the other.
use Rattle.std.specs.Prelude.{◌≡◌, ◌<◌, ℕ, List, [], ◌∷◌, ◌++◌}
use Rattle.std.specs.List.{flat_map}
use Rattle.krb_name.specs.Text.{escaped, escaped_byte}

-- the components, each after a `/`
abbrev pub behind_slashes : List (List ℕ) → List ℕ
behind_slashes components = flat_map (λ component. 0x2f ∷ escaped component) components

-- an ASCII byte that is written as it is
pub record IsPlain (byte : ℕ) : Type 0 where
  pub ascii : byte < 128
  pub same : escaped_byte byte ≡ byte ∷ []

-- a text is unchanged, or something was appended to it
pub record Continues (old new : List ℕ) : Type 0 where
  pub more : List ℕ
  pub is : new ≡ old ++ more
