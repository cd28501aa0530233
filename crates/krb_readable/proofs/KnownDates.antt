-- The texts of some times.
use Rattle.std.proofs.Common.{◌≡◌, ◌≤◌, ◌++◌, ◌∷◌, [], ℕ, ◌/◌, ◌%◌, refl, ap, ◌∙◌, arith, pos, codes}
use Rattle.std.proofs.lemmas.Int.{ints}
use Rattle.jiff_core.specs.Calendar.{day_count, days_of_years, days_of_months, days_from_civil, IsCivilDate}
use Rattle.krb_readable.specs.Date.{day_text, clock_text, date_text, date_of}
use Rattle.krb_readable.proofs.DateLaws.{day_text_is}

-- a time of a day whose date is known
text_at : (y m d seconds day : ℕ) → IsCivilDate (pos y) m d → 1970 ≤ y → days_from_civil (pos y) m d ≡ pos day → seconds / 86_400 ≡ day
    → date_text seconds ≡ date_of y m d ++ (0x54 ∷ (clock_text (seconds % 86_400) ++ 0x5a ∷ []))
unfolding date_text
text_at y m d seconds day valid from number is =
    ap (λ n. day_text n ++ (0x54 ∷ (clock_text (seconds % 86_400) ++ 0x5a ∷ []))) is
    ∙ ap (λ text. text ++ (0x54 ∷ (clock_text (seconds % 86_400) ++ 0x5a ∷ []))) (day_text_is y m d day valid from number)

numbers : (days_from_civil (pos 1970) 1 1 ≡ pos 0) × (days_from_civil (pos 2000) 2 29 ≡ pos 11_016) × (days_from_civil (pos 2026) 11 25 ≡ pos 20_782)
    × (days_from_civil (pos 2100) 3 1 ≡ pos 47_541) × (days_from_civil (pos 2106) 2 7 ≡ pos 49_710)
unfolding days_from_civil day_count days_of_years days_of_months
numbers = (refl, refl, refl, refl, refl)

valid : (IsCivilDate (pos 1970) 1 1) × (IsCivilDate (pos 2000) 2 29) × (IsCivilDate (pos 2026) 11 25) × (IsCivilDate (pos 2100) 3 1)
    × (IsCivilDate (pos 2106) 2 7)
valid = (
  ((omega (arith, ints), omega (arith, ints)), (omega arith, omega arith), (omega arith, omega arith)),
  ((omega (arith, ints), omega (arith, ints)), (omega arith, omega arith), (omega arith, omega arith)),
  ((omega (arith, ints), omega (arith, ints)), (omega arith, omega arith), (omega arith, omega arith)),
  ((omega (arith, ints), omega (arith, ints)), (omega arith, omega arith), (omega arith, omega arith)),
  ((omega (arith, ints), omega (arith, ints)), (omega arith, omega arith), (omega arith, omega arith)),
)

pub first : date_text 0 ≡ codes "1970-01-01T00:00:00Z"
first = text_at 1970 1 1 0 0 valid.0 (omega arith) numbers.0 refl

pub leap_day : date_text 951_868_799 ≡ codes "2000-02-29T23:59:59Z"
leap_day = text_at 2000 2 29 951_868_799 11_016 valid.1 (omega arith) numbers.1 refl

pub recent : date_text 1_795_570_309 ≡ codes "2026-11-25T01:31:49Z"
recent = text_at 2026 11 25 1_795_570_309 20_782 valid.2 (omega arith) numbers.2 refl

pub no_leap_day : date_text 4_107_542_400 ≡ codes "2100-03-01T00:00:00Z"
no_leap_day = text_at 2100 3 1 4_107_542_400 47_541 valid.3 (omega arith) numbers.3 refl

pub last : date_text 4_294_967_295 ≡ codes "2106-02-07T06:28:15Z"
last = text_at 2106 2 7 4_294_967_295 49_710 valid.4 (omega arith) numbers.4 refl
