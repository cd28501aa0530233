use Rattle.std.proofs.Common.{append_assoc, rules}
use Rattle.krb_explain_keys.specs.Inner.Seen.{sight_of}
use Rattle.krb_explain_keys.proofs.keyed.request_lines.Goals as goal

pub returns : goal.returns
returns c = record {
  sight = sight_of c.in_ok-seen.seen;
  date = c.in_ok-date.date;
  first = c.in_ok-first.field-0;
  sees = search rules;
  date_is = c.in_ok-date.ensures;
  verdict = rw (c.in_ok-first.was, c.start_of-now.ensures) at c.verdict-first.ensures;
  lines_are = search (rules, append_assoc);
}
