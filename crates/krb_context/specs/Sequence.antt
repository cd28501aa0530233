-- The order of the tokens that one side takes (RFC 2743, section 1.2.3). Numbers are those of RFC 4121, section 4.2.6: below 2 ^ 64.
use Rattle.std.specs.Prelude.{◌≡◌, ◌≢◌, ◌≤◌, ◌<◌, ◌+◌, ℕ, zero, suc, List, [], ◌∷◌, Contains, max}
use Rattle.krb_context.specs.declared.order.Order.{Order}
use Rattle.krb_context.specs.declared.order.Order.TheVariants.{Next, AfterGap, Late, Repeat, Old}

-- the number that is awaited: the first one, or one more than the greatest that was taken
abbrev pub next_of : ℕ → List ℕ → ℕ
next_of first [] = first
next_of first (number ∷ taken) = max (number + 1) (next_of first taken)

-- among the 64 numbers before the one that is awaited, and none before the first
pub record IsRecent (first next number : ℕ) : Type 0 where
  pub from_first : first ≤ number
  pub before : number < next
  pub near : next ≤ number + 64

-- how a number stands to those that were taken
abbrev pub IsOrder : ℕ → List ℕ → ℕ → Order → Type 0
IsOrder first taken number Next = number ≡ next_of first taken
IsOrder first taken number AfterGap = next_of first taken < number
IsOrder first taken number Repeat = IsRecent first (next_of first taken) number × Contains taken number
IsOrder first taken number Late = IsRecent first (next_of first taken) number × ¬ Contains taken number
IsOrder first taken number Old = (number < next_of first taken) × ¬ IsRecent first (next_of first taken) number

-- it is known that a token that stands so wasn't taken before
abbrev pub IsNew : Order → Type 0
IsNew order = (order ≢ Repeat) × (order ≢ Old)

-- the numbers of so many tokens that a side sends, the last one in front
abbrev pub sent_numbers : ℕ → ℕ → List ℕ
sent_numbers first zero = []
sent_numbers first (suc count) = (first + count) ∷ sent_numbers first count

-- what is known of the numbers that were taken: the first one, the one that is awaited, and the recent ones, perhaps with others that were taken
pub record Known : Type 0 where
  pub first : ℕ
  pub next : ℕ
  pub recent : List ℕ

-- this is known of these numbers, taken after `first`
pub record Stands (known : Known) (first : ℕ) (taken : List ℕ) : Type 0 where
  pub first_is : known.first ≡ first
  pub next_is : known.next ≡ next_of first taken
  pub only : (number : ℕ) → Contains known.recent number → Contains taken number
  pub all : (number : ℕ) → IsRecent first known.next number → Contains taken number → Contains known.recent number
