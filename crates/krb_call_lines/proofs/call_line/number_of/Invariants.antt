use Rattle.std.proofs.Common.{◌≡◌, ◌≤◌, drop}
use Rattle.std.specs.Str.Parse.{AllDigits, digits_value, digits_value_after}
use Rattle.krb_call_lines.proofs.call_line.number_of.Given as goal

-- what the digits after the index have to be, and what they make of the number so far
abbrev pub invariant-loop-digit : goal.invariant-loop-digit
invariant-loop-digit l = record {
  bound : l.number ≤ l.greatest;
  there : AllDigits 10 l.digits → AllDigits 10 (drop l.digit-index l.digits);
  back : AllDigits 10 (drop l.digit-index l.digits) → AllDigits 10 l.digits;
  value : digits_value 10 l.digits ≡ digits_value_after 10 l.number (drop l.digit-index l.digits);
}
