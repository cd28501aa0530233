use Rattle.std.proofs.Common.{◌≡◌, ◌-◌, ◌≤◌}
use Rattle.krb_file.specs.File.{file_limit}
use Rattle.krb_keytab.specs.Inner.Meeting.{PassesHoles}
use Rattle.krb_keytab.proofs.step.next_entry.Given as goal

abbrev pub invariant-loop-kept : goal.invariant-loop-kept
invariant-loop-kept g l = record {
  passes : PassesHoles (g.F.Feed.hand l.fn.feed) (g.F.Feed.hand l.feed);
  limit : (g.F.Feed.hand l.feed).given ≤ file_limit;
  failures : g.F.Feed.failure_count l.feed ≡ g.F.Feed.failure_count l.fn.feed;
  lent : g.F.Feed.lender l.feed ≡ g.F.Feed.lender l.fn.feed;
}

abbrev pub decreases-loop-kept : goal.decreases-loop-kept
decreases-loop-kept g l = file_limit - (g.F.Feed.hand l.feed).given
