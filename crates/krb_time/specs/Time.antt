-- Times (RFC 4120, section 5.2.3): GeneralizedTime in UTC, without a fraction, on the calendar of
-- ISO 8601 with years from 0000 to 9999. The calendar is jiff_core's, which counts the days of each
-- year.
use Rattle.std.specs.Prelude.{◌≡◌, ℕ, ◌+◌, ◌*◌, ◌/◌, ◌%◌, ◌<◌, ℤ, pos, neg_ℤ, ◌+ℤ◌, ◌*ℤ◌, ◌≤ℤ◌, List, [], ◌∷◌, ◌++◌}
use Rattle.jiff_core.specs.Calendar.{IsCivilDate, days_from_civil}

-- a second of the calendar
pub record Civil : Type 0 where
  pub year : ℕ
  pub month : ℕ
  pub day : ℕ
  pub hour : ℕ
  pub minute : ℕ
  pub second : ℕ

-- the calendar has it, the year is at most 9999, and there is no second 60
pub record IsCivil (t : Civil) : Type 0 where
  pub date : IsCivilDate (pos t.year) t.month t.day
  pub hour : t.hour < 24
  pub minute : t.minute < 60
  pub second : t.second < 60

-- 86,400 for each day since 1970-01-01, and the time of day
abbrev pub seconds_of : Civil → ℤ
seconds_of t =
    pos 86_400 *ℤ days_from_civil (pos t.year) t.month t.day +ℤ pos (3_600 * t.hour + 60 * t.minute + t.second)

-- two decimal digits
abbrev pub two : ℕ → List ℕ
two n = (48 + n / 10 % 10) ∷ (48 + n % 10) ∷ []

-- YYYYMMDDHHMMSSZ
abbrev pub text_of : Civil → List ℕ
text_of t =
    two (t.year / 100) ++ two (t.year % 100) ++ two t.month ++ two t.day ++ two t.hour ++ two t.minute ++ two t.second
    ++ 0x5a ∷ []

-- the content is the text of the time with these seconds
pub record IsTime (s : ℤ) (content : List ℕ) : Type 0 where
  pub civil : Civil
  pub valid : IsCivil civil
  pub value : seconds_of civil ≡ s
  pub whole : content ≡ text_of civil

-- from 0000-01-01T00:00:00Z to 9999-12-31T23:59:59Z
pub record IsSeconds (s : ℤ) : Type 0 where
  pub low : neg_ℤ (pos 62_167_219_200) ≤ℤ s
  pub high : s ≤ℤ pos 253_402_300_799
