use Rattle.std.proofs.Common.{◌≡◌, ◌-◌, ◌≤◌, None}
use Rattle.krb_file.specs.File.{file_limit}
use Rattle.krb_keytab.specs.Items.{last_answer}
use Rattle.krb_file_commands.specs.Inner.Walk.{EntriesCounted}
use Rattle.krb_file_commands.proofs.count.CountFromEntries.from_entries.Given as goal

abbrev pub invariant-loop-count : goal.invariant-loop-count
invariant-loop-count g l = record {
  counted : EntriesCounted (g.S.Source.remaining l.fn.reader.source) (g.S.Source.remaining l.reader.source) l.reader l.count;
  going : last_answer l.reader.stage ≡ None;
  few : l.count ≤ l.reader.given;
  limit : l.count ≤ file_limit;
  failures : g.S.Source.failure_count l.reader.source ≡ g.S.Source.failure_count l.fn.reader.source;
  lent : g.S.Source.lender l.reader.source ≡ g.S.Source.lender l.fn.reader.source;
}

abbrev pub decreases-loop-count : goal.decreases-loop-count
decreases-loop-count g l = file_limit - l.reader.given
