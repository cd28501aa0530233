-- Sequence numbers in kinds and in values, and the second spelling of a value that has one above
-- 2147483647.
use Rattle.std.specs.Prelude.{ℕ, ◌+◌, ◌*◌, List, [], ◌∷◌, IsSomeAnd, ◌⊎◌}
use Rattle.krb_der.specs.Kind.{Kind, leaf, wrapped, sequence, Fields, ends, must, may, each, ValueOf, FieldsOf}
use Rattle.krb_der.specs.Content.{leaf_of, Negated}
use Rattle.krb_der.specs.Spells.{SpellsBy}

-- how many sequence numbers an element of the kind can hold; two for each of those that may come
-- again and again
abbrev mutual
  pub numbers_in : Kind → ℕ
  numbers_in (leaf c) = (leaf_of c).numbers
  numbers_in (wrapped tag k) = numbers_in k
  numbers_in (sequence fs) = numbers_among fs

  pub numbers_among : Fields → ℕ
  numbers_among ends = 0
  numbers_among (must k fs) = numbers_in k + numbers_among fs
  numbers_among (may k fs) = numbers_in k + numbers_among fs
  numbers_among (each k) = 2 * numbers_in k

-- one of some values is so
abbrev pub ForSome : {V : Type 0} → (V → Type 0) → List V → Type 0
ForSome P [] = ⊥
ForSome P (v ∷ vs) = P v ⊎ ForSome P vs

-- a sequence number in the value is above 2147483647
abbrev mutual
  pub HasHigh : (k : Kind) → ValueOf k → Type 0
  HasHigh (leaf c) v = (leaf_of c).IsHigh v
  HasHigh (wrapped tag k) v = HasHigh k v
  HasHigh (sequence fs) v = HaveHigh fs v

  pub HaveHigh : (fs : Fields) → FieldsOf fs → Type 0
  HaveHigh ends v = ⊥
  HaveHigh (must k fs) v = HasHigh k v.0 ⊎ HaveHigh fs v.1
  HaveHigh (may k fs) v = IsSomeAnd v.0 (λ x. HasHigh k x) ⊎ HaveHigh fs v.1
  HaveHigh (each k) v = ForSome (λ x. HasHigh k x) v

-- the bytes spell a value that has one, with its sequence numbers as negative numbers
abbrev pub SpellsNegative : (k : Kind) → ValueOf k → List ℕ → Type 0
SpellsNegative k v bytes = SpellsBy Negated k v bytes × HasHigh k v
