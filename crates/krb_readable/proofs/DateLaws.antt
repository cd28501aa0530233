-- A date of jiff_core has the year, the month and the place in the month that the definitions count.
use Rattle.std.proofs.Common.{◌≡◌, ℕ, zero, suc, ◌+◌, ◌-◌, ◌<◌, ◌≤◌, true, false, get_or, length, refl, sym, ap, ◌∙◌, arith, ℤ, pos, nat_abs, ◌+ℤ◌, ◌<ℤ◌, ◌≤ℤ◌, negsuc, int_le, to_z, of_z, w16, Fits}
use Rattle.std.specs.List.{range_with_len}
use Rattle.std.proofs.lemmas.Int.{ints, by_lt_z, to_z-of_z}
use mir.Val.{SFits}
use lib.Dec.{T}
use lib.Signed.{non_neg}
use Rattle.std.proofs.lemmas.List.FromFn.{length-range_with_len, get_or-range_with_len}
use Rattle.std.proofs.lemmas.List.Sums.{prefix_len_is}
use Rattle.jiff_core.specs.Calendar.{day_count, days_in_year, days_of_months, days_from_civil, IsCivilDate}
use Rattle.jiff_core.specs.declared.civil.date.Date.{Date}
use Rattle.jiff_core.proofs.CalendarLemmas.{day_count-epoch, days_from_civil-day_count, days_in_year_bounds, day_count-next_year, day_count-day_of_year, day_of_year_bound, days_of_months_mono, day_count-lt_month, day_count-lt_year, day_count-day}
use Rattle.jiff_core.proofs.DateLemmas.{civil}
use Rattle.krb_readable.specs.Date.{year_of, month_of, place_of, date_of, day_text}

le_is : (a b : ℤ) → a ≤ℤ b → int_le a b ≡ true
le_is a b h = grind (arith, ints)

not_le : (a b : ℤ) → b <ℤ a → int_le a b ≡ false
not_le a b h = grind (arith, ints)

-- each year has a day at least
years_grow : (y k : ℕ) → day_count (pos y) 1 1 + k ≤ day_count (pos (y + k)) 1 1
years_grow y zero = let e : y + 0 ≡ y = omega arith in rw e (omega arith)
years_grow y (suc k) =
    let next : pos (y + suc k) ≡ pos (y + k) +ℤ pos 1 = omega (arith, ints) in
    omega (arith, years_grow y k, day_count-next_year (pos (y + k)) (pos (y + suc k)) (omega (arith, ints)) next, days_in_year_bounds (pos (y + k)))

years_order : (y later : ℕ) → y ≤ later → day_count (pos y) 1 1 + (later - y) ≤ day_count (pos later) 1 1
years_order y later h = let e : y + (later - y) ≡ later = omega arith in rw e at (years_grow y (later - y))

-- ---- the year
year_is : (y m d day : ℕ) → IsCivilDate (pos y) m d → 1970 ≤ y → days_from_civil (pos y) m d ≡ pos day → year_of day ≡ y
unfolding year_of
year_is y m d day civil_date from is =
    let here : day_count (pos y) m d ≡ day + 4_371_953 = omega (arith, ints, days_from_civil-day_count (pos y) m d) in
    let in_year : day_count (pos y) m d + 1 ≡ day_count (pos y) 1 1 + (days_of_months (pos y) (m - 1) + d) = day_count-day_of_year (pos y) m d civil_date.2.0 in
    let bound : days_of_months (pos y) (m - 1) + d ≤ days_in_year (pos y) = day_of_year_bound (pos y) m d civil_date in
    let enough : y - 1970 ≤ day = omega (arith, years_order 1970 y from, day_count-epoch, civil_date.2.0) in
    let long : length (range_with_len 1971 day) ≡ day = length-range_with_len 1971 day in
    let begun : (k : ℕ) → k < y - 1970 → int_le (days_from_civil (pos (get_or (range_with_len 1971 day) k 0)) 1 1) (pos day) ≡ true =
    λ k h. ap (λ year. int_le (days_from_civil (pos year) 1 1) (pos day)) (get_or-range_with_len 1971 day k 0 (omega arith))
    ∙ le_is (days_from_civil (pos (1971 + k)) 1 1) (pos day) (omega (arith, ints, days_from_civil-day_count (pos (1971 + k)) 1 1, years_order (1971 + k) y (omega arith), civil_date.2.0)) in
    let next : pos (1971 + (y - 1970)) ≡ pos y +ℤ pos 1 = omega (arith, ints) in
    let later : y - 1970 < length (range_with_len 1971 day) → int_le (days_from_civil (pos (get_or (range_with_len 1971 day) (y - 1970) 0)) 1 1) (pos day) ≡ false =
    λ h. ap (λ year. int_le (days_from_civil (pos year) 1 1) (pos day)) (get_or-range_with_len 1971 day (y - 1970) 0 (omega arith))
    ∙ not_le (days_from_civil (pos (1971 + (y - 1970))) 1 1) (pos day) (omega (arith, ints, days_from_civil-day_count (pos (1971 + (y - 1970))) 1 1, day_count-next_year (pos y) (pos (1971 + (y - 1970))) (omega (arith, ints)) next)) in
    let counted = prefix_len_is (λ year. int_le (days_from_civil (pos year) 1 1) (pos day)) (range_with_len 1971 day) (y - 1970) 0 (omega arith) begun later in
    omega (arith, counted)

-- ---- the month
month_is : (y m d day : ℕ) → IsCivilDate (pos y) m d → days_from_civil (pos y) m d ≡ pos day → month_of y day ≡ m
unfolding month_of
month_is y m d day civil_date is =
    let long : length (range_with_len 2 11) ≡ 11 = length-range_with_len 2 11 in
    let in_year : day_count (pos y) m d + 1 ≡ day_count (pos y) 1 1 + (days_of_months (pos y) (m - 1) + d) = day_count-day_of_year (pos y) m d civil_date.2.0 in
    let begun : (k : ℕ) → k < m - 1 → int_le (days_from_civil (pos y) (get_or (range_with_len 2 11) k 0) 1) (pos day) ≡ true =
    λ k h. let month_first : day_count (pos y) (2 + k) 1 + 1 ≡ day_count (pos y) 1 1 + (days_of_months (pos y) (2 + k - 1) + 1) = day_count-day_of_year (pos y) (2 + k) 1 (omega arith) in
    ap (λ month. int_le (days_from_civil (pos y) month 1) (pos day)) (get_or-range_with_len 2 11 k 0 (omega (arith, civil_date.1.1)))
    ∙ le_is (days_from_civil (pos y) (2 + k) 1) (pos day) (omega (arith, ints, days_from_civil-day_count (pos y) (2 + k) 1, days_from_civil-day_count (pos y) m d, days_of_months_mono (pos y) (2 + k - 1) (m - 1) (omega arith), civil_date.2.0)) in
    let later : m - 1 < length (range_with_len 2 11) → int_le (days_from_civil (pos y) (get_or (range_with_len 2 11) (m - 1) 0) 1) (pos day) ≡ false =
    λ h. ap (λ month. int_le (days_from_civil (pos y) month 1) (pos day)) (get_or-range_with_len 2 11 (m - 1) 0 (omega arith))
    ∙ not_le (days_from_civil (pos y) (2 + (m - 1)) 1) (pos day) (omega (arith, ints, days_from_civil-day_count (pos y) (2 + (m - 1)) 1, days_from_civil-day_count (pos y) m d, day_count-lt_month (pos y) m d (2 + (m - 1)) 1 civil_date (omega arith) (omega (arith, civil_date.1.0)))) in
    let counted = prefix_len_is (λ month. int_le (days_from_civil (pos y) month 1) (pos day)) (range_with_len 2 11) (m - 1) 0 (omega (arith, civil_date.1.1)) begun later in
    omega (arith, counted, civil_date.1.0)

-- ---- the place in the month
place_is : (y m d day : ℕ) → 1 ≤ d → days_from_civil (pos y) m d ≡ pos day → place_of y m day ≡ d
unfolding place_of
place_is y m d day first is =
    omega (arith, ints, days_from_civil-day_count (pos y) m d, days_from_civil-day_count (pos y) m 1, day_count-day (pos y) m d 1 first (omega arith))

-- ---- from 1970 on
from_1970 : (date : Date) (day : ℕ) → days_from_civil date.year date.month date.day ≡ pos day → pos 1970 ≤ℤ date.year
from_1970 date day is =
    by_lt_z date.year (pos 1970)
    (λ before. absurd (omega (arith, ints, day_count-lt_year date.year date.month date.day (pos 1970) 1 1 (civil date) (omega arith) before, days_from_civil-day_count date.year date.month date.day, day_count-epoch)))
    (λ from. from)

-- the parts of a date are those of its day
pub record AreParts (day y m d : ℕ) : Type 0 where
  pub year : y ≡ year_of day
  pub month : m ≡ month_of y day
  pub place : d ≡ place_of y m day
  pub is_civil : IsCivilDate (pos y) m d
  pub number : days_from_civil (pos y) m d ≡ pos day
  pub from : 1970 ≤ y

-- ---- a year is cast to a number of 16 bits
pub record IsCast (y : ℤ) : Type 0 where
  pub fits : T (non_neg (to_z w16 (of_z w16 y))) × Fits w16 (nat_abs (to_z w16 (of_z w16 y)))
  pub value : y ≡ pos (nat_abs (to_z w16 (of_z w16 y)))
  pub four : nat_abs (to_z w16 (of_z w16 y)) < 10_000

is_cast : (y : ℤ) → pos 0 ≤ℤ y → y ≤ℤ pos 9999 → IsCast y
is_cast (pos n) from range =
    let lt : n < 10_000 = omega (arith, ints, range) in
    let small : SFits w16 (pos n) = omega (arith, ints) in
    let same : to_z w16 (of_z w16 (pos n)) ≡ pos n = to_z-of_z w16 (pos n) small in
    record { fits = rw same (tt, omega arith); value = rw same refl; four = rw same lt }
is_cast (negsuc m) from range = absurd (omega (arith, ints, from))

pub cast_year : (date : Date) (day : ℕ) → days_from_civil date.year date.month date.day ≡ pos day → IsCast date.year
cast_year date day is = is_cast date.year (omega (arith, ints, from_1970 date day is)) date.year_in.1

parts_at : (date : Date) (day y : ℕ) → date.year ≡ pos y → days_from_civil date.year date.month date.day ≡ pos day → AreParts day y date.month date.day
parts_at date day y year is =
    let valid : IsCivilDate (pos y) date.month date.day = rw year at (civil date) in
    let number : days_from_civil (pos y) date.month date.day ≡ pos day = ap (λ z. days_from_civil z date.month date.day) (sym year) ∙ is in
    let from : 1970 ≤ y = omega (arith, ints, from_1970 date day is, year) in
    record {
      year = sym (year_is y date.month date.day day valid from number);
      month = sym (month_is y date.month date.day day valid number);
      place = sym (place_is y date.month date.day day valid.2.0 number);
      is_civil = valid;
      number = number;
      from = from;
    }

pub parts : (date : Date) (day : ℕ) → days_from_civil date.year date.month date.day ≡ pos day
    → AreParts day (nat_abs (to_z w16 (of_z w16 date.year))) date.month date.day
parts date day is = parts_at date day (nat_abs (to_z w16 (of_z w16 date.year))) (cast_year date day is).value is

-- ---- each day has the text of its date
pub day_text_is : (y m d day : ℕ) → IsCivilDate (pos y) m d → 1970 ≤ y → days_from_civil (pos y) m d ≡ pos day → day_text day ≡ date_of y m d
day_text_is y m d day valid from number =
    rw (year_is y m d day valid from number, month_is y m d day valid number, place_is y m d day valid.2.0 number) refl
