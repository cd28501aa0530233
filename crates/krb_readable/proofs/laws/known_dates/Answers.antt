use Rattle.krb_readable.proofs.KnownDates.{first, leap_day, recent, no_leap_day, last}
use Rattle.krb_readable.proofs.laws.known_dates.Goals as goal

pub returns : goal.returns
returns c = record { first = first; leap_day = leap_day; recent = recent; no_leap_day = no_leap_day; last = last }
