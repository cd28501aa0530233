use Rattle.std.proofs.Common.{◌∙◌}
use Rattle.krb_explain_keys.proofs.authenticator.time_line.Goals as goal

pub returns : goal.returns
returns c = record {
  date = c.in_ok-date.date;
  date_is = c.in_ok-date.ensures;
  line_is = rw (c.as_str-text.ensures, c.get-micros.ensures.value, c.in_ok-age.ensures, c.at.ensures) at (c.new.ensures ∙ c.in_ok-format.ensures.ok);
}
