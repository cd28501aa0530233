-- A second of the calendar in a line: `2026-11-24T01:31:49Z` (ISO 8601; RFC 3339, section 5.6).
use Rattle.std.specs.Prelude.{◌≡◌, ℕ, ℤ, List, [], ◌∷◌, ◌++◌, slice_range, nat_le, ◌&&◌, not, ◌==◌, Bool, if◌then◌else◌}
use Rattle.std.specs.List.{flat_map}
use Rattle.krb_name.specs.Text.{hex_escape}
use Rattle.krb_time.specs.Time.{IsTime}

-- from the space to `~`, without the backslash
abbrev pub is_plain : ℕ → Bool
is_plain byte = nat_le 0x20 byte && nat_le byte 0x7e && not (byte == 0x5c)

-- a byte of a text in a message: as it is, or a backslash, `x` and two hexadecimal digits
abbrev pub shown_byte : ℕ → List ℕ
shown_byte byte = if is_plain byte then byte ∷ [] else hex_escape byte

abbrev pub shown : List ℕ → List ℕ
shown bytes = flat_map shown_byte bytes

-- a byte, and digits
abbrev pub part : ℕ → List ℕ → List ℕ
part before digits = before ∷ shown digits

-- YYYY-MM-DD, and THH:MM:SSZ, of the digits YYYYMMDDHHMMSSZ
abbrev pub day_of : List ℕ → List ℕ
day_of digits = shown (slice_range digits 0 4) ++ (part 0x2d (slice_range digits 4 6) ++ part 0x2d (slice_range digits 6 8))

abbrev pub clock_of : List ℕ → List ℕ
clock_of digits = part 0x54 (slice_range digits 8 10) ++ (part 0x3a (slice_range digits 10 12) ++ part 0x3a (slice_range digits 12 15))

abbrev pub date_of : List ℕ → List ℕ
date_of digits = day_of digits ++ clock_of digits

-- the line is what comes before the date, and the date of a number of seconds since 1970-01-01T00:00:00Z
pub record IsDateLine (before : List ℕ) (seconds : ℤ) (line : List ℕ) : Type 0 where
  pub content : List ℕ
  pub time : IsTime seconds content
  pub line_is : line ≡ before ++ date_of content
