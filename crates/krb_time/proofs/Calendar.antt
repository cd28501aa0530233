-- The calendar has exactly the seconds of the years 0000 to 9999, each once.
use Rattle.std.proofs.Common.{◌≡◌, inl, inr, ℕ, zero, suc, ◌+◌, ◌-◌, ◌*◌, ◌/◌, ◌%◌, ◌<◌, ◌≤◌, ℤ, pos, ◌≤ℤ◌, List, refl, sym, ap, subst, ◌∙◌, arith}
use Rattle.std.specs.Prelude.{unsigned_abs}
use Rattle.std.proofs.lemmas.Bool.{cases_lt}
use Rattle.std.proofs.lemmas.Int.{by_lt_z}
use borrow.Author.Differences.{up, down}
use Rattle.jiff_core.specs.Calendar.{days_of_months, day_count, days_from_civil}
use Rattle.jiff_core.specs.DateTime.{civil_seconds}
use Rattle.jiff_core.specs.declared.civil.date.Date.{Date}
use Rattle.jiff_core.specs.declared.civil.datetime.DateTime.{DateTime}
use Rattle.jiff_core.proofs.SignedLemmas.{signed_arith, unsigned_abs-parts, one_part}
use Rattle.jiff_core.proofs.MarchLemmas.{day_count-early}
use Rattle.jiff_core.proofs.CalendarLemmas.{day_count-end, day_count_bounds, day_count-day_of_year, day_count-next_year, day_count-later_year, day_count-lt_year, days_of_months-zero, days_of_months_more, days_of_months_all, days_from_civil-day_count}
use Rattle.jiff_core.proofs.DateLemmas.{civil, epoch_day_injective}
use Rattle.krb_time.specs.Time.{Civil, IsCivil, seconds_of, text_of, IsTime, IsSeconds}
use Rattle.krb_time.specs.Inner.CivilView.{plain_civil}

-- ---- the range
year_zero : day_count (pos 0) 1 1 ≡ 3_652_425
year_zero = day_count-early (pos 0) 9999 1 1 refl (omega arith) (omega arith) (omega arith)

year_from_zero : (y : ℕ) → 3_652_425 ≤ day_count (pos y) 1 1
year_from_zero zero = omega (arith, year_zero)
year_from_zero (suc y) =
    omega (arith, year_zero, day_count-later_year (pos 0) (pos (suc y)) (omega (arith, signed_arith)) (omega (arith, signed_arith)))

civil_range : (t : Civil) → IsCivil t → IsSeconds (seconds_of t)
civil_range t v =
    let number = days_from_civil-day_count (pos t.year) t.month t.day in
    let low : 3_652_425 ≤ day_count (pos t.year) t.month t.day =
    omega (arith, day_count-day_of_year (pos t.year) t.month t.day v.date.2.0, year_from_zero t.year, v.date.2) in
    let high = day_count_bounds (pos t.year) t.month t.day v.date in
    record {
      low = omega (arith, signed_arith, number, low, v.hour, v.minute, v.second);
      high = omega (arith, signed_arith, number, high, v.hour, v.minute, v.second);
    }

pub time_range : (s : ℤ) (content : List ℕ) → IsTime s content → IsSeconds s
time_range s content h = subst IsSeconds h.value (civil_range h.civil h.valid)

-- ---- each second is of the calendar
-- where a sum passes a number
step_at : (f : ℕ → ℕ) (end n : ℕ) → f 0 ≤ n → n < f end → (k : ℕ) × (k < end) × (f k ≤ n) × (n < f (suc k))
step_at f zero n from lt = absurd (omega (arith, from, lt))
step_at f (suc k) n from lt =
    elim (cases_lt n (f k)) [
      | inl earlier ↦ let found = step_at f k n from earlier in (found.0, omega (arith, found.1), found.2, found.3)
      | inr here ↦ (k, omega arith, here, lt)
    ]

pub time_made : (s : ℤ) → IsSeconds s → (content : List ℕ) × IsTime s content
time_made s h =
    let n = up s + 377_736_739_200 - down s in
    let days = n / 86_400 in
    let clock = n % 86_400 in
    let year = step_at (λ y. day_count (pos y) 1 1) 10_000 days (omega (arith, signed_arith, year_zero)) (omega (arith, signed_arith, day_count-end)) in
    let y = year.0 in
    let next = day_count-next_year (pos y) (pos (suc y)) (omega (arith, signed_arith)) (omega (arith, signed_arith)) in
    let left = days - day_count (pos y) 1 1 in
    let month = step_at (days_of_months (pos y)) 12 left (omega (arith, days_of_months-zero (pos y))) (omega (arith, days_of_months_all (pos y), year.2, year.3, next)) in
    let m = month.0 in
    let d = left - days_of_months (pos y) m + 1 in
    let back : suc m - 1 ≡ m = omega arith in
    let before : days_of_months (pos y) (suc m - 1) ≡ days_of_months (pos y) m = ap (days_of_months (pos y)) back in
    let count : day_count (pos y) (suc m) d ≡ days =
    omega (arith, day_count-day_of_year (pos y) (suc m) d (omega arith), before, year.2, month.2) in
    let civil : Civil = record { year = y; month = suc m; day = d; hour = clock / 3_600; minute = clock / 60 % 60; second = clock % 60 } in
    let valid : IsCivil civil = record {
      date = ((omega (arith, signed_arith), omega (arith, signed_arith, year.1)), (omega arith, omega (arith, month.1)), (omega arith, omega (arith, month.2, month.3, before, days_of_months_more (pos y) (suc m) (omega arith))));
      hour = omega arith;
      minute = omega arith;
      second = omega arith;
    } in
    (text_of civil, record { civil = civil; valid = valid; value = omega (arith, signed_arith, days_from_civil-day_count (pos y) (suc m) d, count); whole = refl })

-- ---- a second is once in the calendar
abbrev date_of : (t : Civil) → IsCivil t → Date
date_of t v =
    record { year = pos t.year; month = t.month; day = t.day; year_in = v.date.0; month_in = v.date.1; day_in = v.date.2 }

pub same_civil : (a b : Civil) → a.year ≡ b.year → a.month ≡ b.month → a.day ≡ b.day → a.hour ≡ b.hour → a.minute ≡ b.minute → a.second ≡ b.second → a ≡ b
same_civil a b y m d h n s = λ i. record { year = y i; month = m i; day = d i; hour = h i; minute = n i; second = s i }

seconds_injective : (a b : Civil) → IsCivil a → IsCivil b → seconds_of a ≡ seconds_of b → a ≡ b
seconds_injective a b v w e =
    let days : days_from_civil (pos a.year) a.month a.day ≡ days_from_civil (pos b.year) b.month b.day =
    omega (arith, signed_arith, e, v.hour, v.minute, v.second, w.hour, w.minute, w.second) in
    let clocks : 3_600 * a.hour + 60 * a.minute + a.second ≡ 3_600 * b.hour + 60 * b.minute + b.second = omega (arith, signed_arith, e, days) in
    let date = epoch_day_injective (date_of a v) (date_of b w) days in
    let hour : a.hour ≡ b.hour = omega (arith, clocks, v.minute, v.second, w.minute, w.second) in
    let minute : a.minute ≡ b.minute = omega (arith, clocks, hour, v.second, w.second) in
    same_civil a b (omega (arith, signed_arith, date.0)) date.1 date.2 hour minute (omega (arith, clocks, hour, minute))

pub time_unique : (s : ℤ) (a b : List ℕ) → IsTime s a → IsTime s b → a ≡ b
time_unique s a b h k =
    h.whole ∙ ap text_of (seconds_injective h.civil k.civil h.valid k.valid (h.value ∙ sym k.value)) ∙ sym k.whole

-- ---- date-times of the code
-- one from the year 0000 on, with its text
pub time_is : (t : DateTime) (content : List ℕ) → pos 0 ≤ℤ t.date.year → content ≡ text_of (plain_civil t) → IsTime (civil_seconds t) content
unfolding civil_seconds
time_is t content from whole =
    let year : pos (unsigned_abs t.date.year) ≡ t.date.year = omega (arith, signed_arith, unsigned_abs-parts t.date.year, one_part t.date.year) in
    record {
      civil = plain_civil t;
      valid = record { date = rw year (civil t.date); hour = t.time.hour_in; minute = t.time.minute_in; second = t.time.second_in };
      value = rw year (omega (arith, signed_arith));
      whole = whole;
    }

-- one that is a second of these years
pub year_of_seconds : (t : DateTime) → IsSeconds (civil_seconds t) → pos 0 ≤ℤ t.date.year
unfolding civil_seconds
year_of_seconds t h =
    by_lt_z t.date.year (pos 0)
    (λ before.
    let earlier = day_count-lt_year t.date.year t.date.month t.date.day (pos 0) 1 1 (civil t.date) (omega arith) before in
    absurd (omega (arith, signed_arith, earlier, year_zero, days_from_civil-day_count t.date.year t.date.month t.date.day)))
    (λ from. from)
