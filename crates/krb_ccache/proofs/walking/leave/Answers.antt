use Rattle.krb_ccache.proofs.WalkParts.{size_goes}
use Rattle.krb_ccache.proofs.walking.leave.Goals as goal

pub returns-clause-walk : goal.returns-clause-walk
returns-clause-walk g c = λ pass same strict.
    size_goes g.T.Feed.allocates strict c.args.left c.args.size (g.T.Feed.hand c.args.feed.now) (rw c.bytes-held.ensures.bytes at c.bytes-held.ensures.within) c.requires.within pass same
