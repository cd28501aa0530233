use Rattle.std.proofs.Common.{◌≡◌, ◌-◌, ◌≤◌}
use Rattle.krb_file.specs.File.{file_limit}
use Rattle.krb_keytab.specs.Inner.Meeting.{HasTaken}
use Rattle.krb_keytab.proofs.step.read_entries.Given as goal

abbrev pub invariant-loop-entries : goal.invariant-loop-entries
invariant-loop-entries g l = record {
  taken : HasTaken (g.F.Feed.hand l.fn.feed).source (g.F.Feed.hand l.feed).source (g.F.Feed.hand l.feed).given l.entries;
  limit : (g.F.Feed.hand l.feed).given ≤ file_limit;
  failures : g.F.Feed.failure_count l.feed ≡ g.F.Feed.failure_count l.fn.feed;
  lent : g.F.Feed.lender l.feed ≡ g.F.Feed.lender l.fn.feed;
}

abbrev pub decreases-loop-entries : goal.decreases-loop-entries
decreases-loop-entries g l = file_limit - (g.F.Feed.hand l.feed).given
