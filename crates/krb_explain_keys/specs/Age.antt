-- How long before a service's time an authenticator was made, or how long after it.
use Rattle.std.specs.Prelude.{ℕ, ℤ, pos, ◌/◌, ◌%◌, ◌^◌, ◌-◌, ◌==◌, nat_lt, int_lt, unsigned_abs, false, List, [], ◌++◌, codes, if◌then◌else◌}
use Rattle.std.specs.Ordering.{int_eq}
use Rattle.std.specs.Fmt.{decimal, format_spec, padded_integral}

-- six digits, the first ones zeros if need be
abbrev pub six_digits : ℕ → List ℕ
six_digits number = padded_integral (format_spec 32 0 4 6 (2 ^ 64 - 1)) false [] (decimal number)

-- the seconds of so many microseconds
abbrev pub seconds_text : ℕ → List ℕ
seconds_text micros = decimal (micros / 1000000) ++ (codes "." ++ (six_digits (micros % 1000000) ++ codes " s"))

-- hours are written from the first one on, and so are minutes
abbrev pub minutes_text : ℕ → List ℕ
minutes_text minutes =
    if minutes == 0 then []
    else if nat_lt minutes 60 then decimal minutes ++ codes " min "
    else decimal (minutes / 60) ++ (codes " h " ++ (decimal (minutes % 60) ++ codes " min "))

abbrev pub span_text : ℕ → List ℕ
span_text micros = minutes_text (micros / 60000000) ++ seconds_text (micros % 60000000)

abbrev pub order_text : ℤ → List ℕ
order_text difference = if int_lt difference (pos 0) then codes "before" else codes "after"

-- by how many microseconds a time is after the service's, or before it if they are negative
abbrev pub age_text : ℤ → List ℕ
age_text difference =
    if int_eq difference (pos 0) then codes "the same as the service's clock"
    else span_text (unsigned_abs difference) ++ (codes " " ++ (order_text difference ++ codes " the service's clock"))
