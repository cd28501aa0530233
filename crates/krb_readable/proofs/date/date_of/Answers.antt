use Rattle.std.proofs.Common.{◌≡◌, pos, arith}
use Rattle.std.proofs.lemmas.Int.{ints}
use Rattle.jiff_core.specs.Calendar.{days_from_civil}
use Rattle.krb_readable.proofs.DateLaws.{cast_year, parts}
use Rattle.krb_readable.proofs.date.date_of.Goals as goal

pub overflow_cast-result : goal.overflow_cast-result
overflow_cast-result c =
    let date = c.from_days_since_min-date.result in
    let is : days_from_civil date.year date.month date.day ≡ pos c.args.day = omega (arith, ints, c.from_days_since_min-date.ensures) in
    (cast_year date c.args.day is).fits

pub returns : goal.returns
returns c =
    let date = c.from_days_since_min-date.result in
    let is : days_from_civil date.year date.month date.day ≡ pos c.args.day = omega (arith, ints, c.from_days_since_min-date.ensures) in
    let p = parts date c.args.day is in
    record { year = p.year; month = p.month; day = p.place; civil = p.is_civil; number = p.number; four = (cast_year date c.args.day is).four }
