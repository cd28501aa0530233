-- Times, read: a content is that of a time if it is the text of the second that its digits name.
use Rattle.std.specs.Prelude.{ℕ, ◌+◌, ◌*◌, ◌%◌, min, ℤ, pos, Bool, ◌&&◌, nat_lt, nat_le, if◌then◌else◌, List, slice_index, Option, Some, None}
use Rattle.std.specs.Str.{bytes_eq}
use Rattle.jiff_core.specs.Calendar.{days_in_month}
use Rattle.krb_time.specs.Time.{Civil, seconds_of, text_of}

-- the number that the two digits at the place are; other bytes give some number below 100
abbrev pub pair_at : ℕ → List ℕ → ℕ
pair_at i content = min (slice_index content i % 16 * 10 + slice_index content (i + 1) % 16) 99

-- the second that fourteen digits name
unfoldable pub civil_of : List ℕ → Civil
civil_of content =
    record {
      year = 100 * pair_at 0 content + pair_at 2 content;
      month = pair_at 4 content;
      day = pair_at 6 content;
      hour = pair_at 8 content;
      minute = pair_at 10 content;
      second = pair_at 12 content;
    }

abbrev pub is_civil : Civil → Bool
is_civil t =
    nat_lt t.year 10_000 && nat_le 1 t.month && nat_le t.month 12 && nat_le 1 t.day && nat_le t.day (days_in_month (pos t.year) t.month)
    && nat_lt t.hour 24 && nat_lt t.minute 60 && nat_lt t.second 60

unfoldable pub time_of : List ℕ → Option ℤ
time_of content =
    if is_civil (civil_of content) && bytes_eq content (text_of (civil_of content)) then Some (seconds_of (civil_of content)) else None
