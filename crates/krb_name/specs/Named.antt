-- The things of a name in a list.
use Rattle.std.specs.Prelude.{◌≡◌, ◌⊎◌, ℕ, ◌≤◌, List, [], ◌∷◌, ◌++◌, length, drop, All}
use Rattle.krb_name.specs.Name.{SameName}
use Rattle.krb_name.specs.declared.principal.Principal.{Principal}

-- a thing, whose name is given by name_of, has another name
abbrev pub HasOtherName : {X : Type 0} → (X → Principal) → Principal → X → Type 0
HasOtherName name_of name one = ¬ SameName (name_of one) name

-- the first from an index on that has the name
pub record IsFirstNamed {X : Type 0} (name_of : X → Principal) (items : List X) (name : Principal) (from at : ℕ) : Type 0 where
  pub before : List X
  pub one : X
  pub after : List X
  pub items_are : items ≡ before ++ one ∷ after
  pub at_is : at ≡ length before
  pub forward : from ≤ at
  pub same : SameName (name_of one) name
  pub others : All (HasOtherName name_of name) (drop from before)

-- `kept` has exactly the things of this name, in their order
abbrev pub KeepsNamed : {X : Type 0} → (X → Principal) → Principal → List X → List X → Type 0
KeepsNamed name_of name [] kept = kept ≡ []
KeepsNamed {X} name_of name (one ∷ items) kept =
    (SameName (name_of one) name × ((rest : List X) × ((kept ≡ one ∷ rest) × KeepsNamed name_of name items rest)))
    ⊎ ((¬ SameName (name_of one) name) × KeepsNamed name_of name items kept)
