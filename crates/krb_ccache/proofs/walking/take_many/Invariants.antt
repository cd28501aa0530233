use Rattle.std.proofs.Common.{◌≡◌, ◌<◌, ◌^◌}
use Rattle.krb_ccache.proofs.WalkLaws.{Front}
use Rattle.krb_ccache.proofs.walking.take_many.Given as goal

abbrev pub invariant-loop : goal.invariant-loop
invariant-loop g l = record {
  front : Front l.skip l.gap (g.T.Feed.hand l.fn.feed) (g.T.Feed.hand l.feed) l.count l.counter l.last;
  small : l.last < 2 ^ 32;
  failures : g.T.Feed.failure_count l.feed ≡ g.T.Feed.failure_count l.fn.feed;
  lent : g.T.Feed.lender l.feed ≡ g.T.Feed.lender l.fn.feed;
}
