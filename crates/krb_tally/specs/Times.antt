-- Items that each have a time. Times and moments have one unit, of any length.
use Rattle.std.specs.Prelude.{◌≡◌, ℕ, ℤ, Bool, true, false, List, All, Contains, int_lt, length, not}
use Rattle.std.specs.List.{filter}

module _ {X : Type 0} (time : X → ℤ) where
  -- the items that aren't before a moment
  abbrev pub since : ℤ → List X → List X
  since oldest items = filter (λ item. not (int_lt (time item) oldest)) items

  -- how many these are
  abbrev pub number_since : ℤ → List X → ℕ
  number_since oldest items = length (since oldest items)

  -- no item of the same time is equal to this one
  abbrev pub LacksEqual : (X → X → Bool) → List X → X → Type 0
  LacksEqual eq items item = All (λ one. time one ≡ time item → eq one item ≡ false) items

  -- an item of the same time is equal to this one
  pub record HasEqual (eq : X → X → Bool) (items : List X) (item : X) : Type 0 where
    pub one : X
    pub there : Contains items one
    pub same_time : time one ≡ time item
    pub equal : eq one item ≡ true

-- a time is its own
abbrev pub own_time : ℤ → ℤ
own_time time = time
