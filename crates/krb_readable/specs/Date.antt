-- A date and time in UTC as text: `2026-11-24T01:31:49Z` (ISO 8601; RFC 3339, section 5.6), on the
-- calendar of jiff_core. A day is a number of days since 1970-01-01.
use Rattle.std.specs.Prelude.{ℕ, ◌+◌, ◌/◌, ◌%◌, pos, ◌-ℤ◌, unsigned_abs, int_le, List, [], ◌∷◌, ◌++◌}
use Rattle.std.specs.List.{range_with_len, prefix_len}
use Rattle.jiff_core.specs.Calendar.{days_from_civil}

-- as many years after 1970 as have begun by that day
unfoldable pub year_of : ℕ → ℕ
year_of day = 1970 + prefix_len (λ year. int_le (days_from_civil (pos year) 1 1) (pos day)) (range_with_len 1971 day)

-- as many months of a year after January as have begun by that day
unfoldable pub month_of : ℕ → ℕ → ℕ
month_of year day = 1 + prefix_len (λ month. int_le (days_from_civil (pos year) month 1) (pos day)) (range_with_len 2 11)

-- the place of a day in a month, from 1
unfoldable pub place_of : ℕ → ℕ → ℕ → ℕ
place_of year month day = unsigned_abs (pos day -ℤ days_from_civil (pos year) month 1) + 1

-- two decimal digits
abbrev pub two : ℕ → List ℕ
two n = (48 + n / 10) ∷ (48 + n % 10) ∷ []

-- the byte, and two digits
abbrev pub part : ℕ → ℕ → List ℕ
part before n = before ∷ two n

-- YYYY-MM-DD
abbrev pub date_of : ℕ → ℕ → ℕ → List ℕ
date_of year month place = two (year / 100) ++ (two (year % 100) ++ (part 0x2d month ++ part 0x2d place))

abbrev pub day_text : ℕ → List ℕ
day_text day = let year = year_of day in let month = month_of year day in date_of year month (place_of year month day)

-- HH:MM:SS, of the second of a day
abbrev pub clock_text : ℕ → List ℕ
clock_text second = two (second / 3_600) ++ (part 0x3a (second / 60 % 60) ++ part 0x3a (second % 60))

-- of a number of seconds since 1970-01-01T00:00:00Z
unfoldable pub date_text : ℕ → List ℕ
date_text seconds = day_text (seconds / 86_400) ++ (0x54 ∷ (clock_text (seconds % 86_400) ++ 0x5a ∷ []))
