-- The lines that `accept` reads: `SECONDS MICROS HEX` or `SECONDS MICROS HEX CONFOUNDER`, with the byte 32 between. Seconds are counted
-- from 1970-01-01T00:00:00Z.
use Rattle.std.specs.Prelude.{◌≡◌, ◌⊎◌, ◌<◌, ◌≤◌, ℕ, ℤ, pos, neg_ℤ, List, [], ◌∷◌, ◌++◌, Option, Some, None, length, Ok}
use Rattle.std.specs.Str.Parse.{IsNumeral, digits_value}
use Rattle.hex.specs.Hex.{decode_of}
use Rattle.krb_time.specs.Time.{IsSeconds}
use Rattle.krb_time.specs.Moments.{micros_of}

-- how long a line may be, its end not counted
abbrev pub line_limit : ℕ
line_limit = 4_194_304

-- one digit or more, and at most so many, which write a number in decimal
abbrev pub SpellsNumber : ℕ → List ℕ → ℕ → Type 0
SpellsNumber most digits number = IsNumeral 10 digits × ((length digits ≤ most) × (digits_value 10 digits ≡ number))

-- 1 to 19 digits after the minus, byte 45
pub record SpellsBefore (text : List ℕ) (seconds : ℤ) : Type 0 where
  pub digits : List ℕ
  pub number : ℕ
  pub text_is : text ≡ 45 ∷ digits
  pub spells : SpellsNumber 19 digits number
  pub seconds_is : seconds ≡ neg_ℤ (pos number)

-- 1 to 19 digits alone
pub record SpellsSince (text : List ℕ) (seconds : ℤ) : Type 0 where
  pub number : ℕ
  pub spells : SpellsNumber 19 text number
  pub seconds_is : seconds ≡ pos number

abbrev pub SpellsSeconds : List ℕ → ℤ → Type 0
SpellsSeconds text seconds = SpellsBefore text seconds ⊎ SpellsSince text seconds

-- a minus for no bytes, or hexadecimal digits of either case for one byte or more
abbrev pub SpellsMessage : List ℕ → List ℕ → Type 0
SpellsMessage text bytes = ((text ≡ 45 ∷ []) × (bytes ≡ [])) ⊎ ((0 < length bytes) × (decode_of text ≡ Ok bytes))

-- 32 hexadecimal digits of either case, for 16 bytes
abbrev pub SpellsConfounder : List ℕ → List ℕ → Type 0
SpellsConfounder text bytes = (length text ≡ 32) × (decode_of text ≡ Ok bytes)

-- a message with a confounder after it
pub record SpellsBoth (text bytes confounder : List ℕ) : Type 0 where
  pub message_text : List ℕ
  pub confounder_text : List ℕ
  pub text_is : text ≡ message_text ++ 32 ∷ confounder_text
  pub spells_message : SpellsMessage message_text bytes
  pub spells_confounder : SpellsConfounder confounder_text confounder

-- what follows the moment: a message, and a confounder or none
abbrev pub SpellsRest : List ℕ → List ℕ → Option (List ℕ) → Type 0
SpellsRest text bytes None = SpellsMessage text bytes
SpellsRest text bytes (Some confounder) = SpellsBoth text bytes confounder

-- the line spells these bytes, the moment of their arrival, and this confounder for a reply
pub record SpellsCall (line bytes : List ℕ) (moment : ℤ) (confounder : Option (List ℕ)) : Type 0 where
  pub seconds_text : List ℕ
  pub micros_text : List ℕ
  pub rest_text : List ℕ
  pub seconds : ℤ
  pub micros : ℕ
  pub line_is : line ≡ seconds_text ++ 32 ∷ (micros_text ++ 32 ∷ rest_text)
  pub limit : length line ≤ line_limit
  pub spells_seconds : SpellsSeconds seconds_text seconds
  pub spells_micros : SpellsNumber 6 micros_text micros
  pub years : IsSeconds seconds
  pub within_second : micros < 1_000_000
  pub moment_is : moment ≡ micros_of seconds micros
  pub rest : SpellsRest rest_text bytes confounder

-- the line spells no call
abbrev pub IsBadLine : List ℕ → Type 0
IsBadLine line = (bytes : List ℕ) (moment : ℤ) (confounder : Option (List ℕ)) → ¬ SpellsCall line bytes moment confounder
