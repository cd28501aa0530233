use Rattle.std.proofs.Common.{◌≡◌, ◌-◌, None, string_bytes}
use Rattle.krb_file.specs.File.{file_limit}
use Rattle.krb_keytab.specs.Items.{last_answer}
use Rattle.krb_file_commands.specs.Inner.Walk.{EntriesListed}
use Rattle.krb_file_commands.proofs.lines.LinesFromEntries.from_entries.Given as goal

abbrev pub invariant-loop-lines : goal.invariant-loop-lines
invariant-loop-lines g l = record {
  listed : EntriesListed (g.S.Source.remaining l.fn.reader.source) (g.S.Source.remaining l.reader.source) l.reader (string_bytes l.lines);
  going : last_answer l.reader.stage ≡ None;
  failures : g.S.Source.failure_count l.reader.source ≡ g.S.Source.failure_count l.fn.reader.source;
  lent : g.S.Source.lender l.reader.source ≡ g.S.Source.lender l.fn.reader.source;
}

abbrev pub decreases-loop-lines : goal.decreases-loop-lines
decreases-loop-lines g l = file_limit - l.reader.given
