use Rattle.krb_file.proofs.Exits.{err_is}
use Rattle.krb_ccache.proofs.WalkLaws.{front_stops}
use Rattle.krb_ccache.proofs.walking.take_many.Goals as goal

pub returns-in_err-take_last-clause-walk : goal.returns-in_err-take_last-clause-walk
returns-in_err-take_last-clause-walk g c =
    rw (err_is c.from_residual.result c.from_residual.ensures.1) (front_stops c.args.skip c.args.gap (g.T.Feed.hand c.args.feed.now) (g.T.Feed.hand c.loop.feed) (g.T.Feed.hand c.take_last.new.feed) c.args.count c.loop.counter c.loop.last c.loop.invariant.front c.loop-test.true g.T.Feed.allocates c.in_err-take_last.field-0.0 c.in_err-take_last.ensures.taken)
