use Rattle.std.proofs.Common.{true, false, subst}
use Rattle.krb_file.proofs.Exits.{err_is}
use Rattle.krb_file.specs.Field.{IsBytes}
use Rattle.krb_ccache.proofs.WalkEnds.{name_walks, name_halts, name_there}
use Rattle.krb_ccache.proofs.leading.PrincipalLeading.take.Goals as goal

pub returns-clause-walks : goal.returns-clause-walks
returns-clause-walks g c = name_walks (g.F.Feed.hand c.args.feed.now) (g.F.Feed.hand c.take_all.new.feed) (c.in_ok-there.ensures.walk false)

pub returns-clause-there : goal.returns-clause-there
returns-clause-there g c =
    name_there (g.F.Feed.hand c.args.feed.now) (g.F.Feed.hand c.take_all.new.feed) c.in_ok-there.there c.requires.none (c.in_ok-there.ensures.walk true) (subst IsBytes c.bytes.ensures.bytes c.are_bytes.ensures)

pub returns-in_err-there-clause-halts : goal.returns-in_err-there-clause-halts
returns-in_err-there-clause-halts g c =
    rw (err_is c.from_residual.result c.from_residual.ensures.1) (name_halts (g.F.Feed.hand c.args.feed.now) (g.F.Feed.hand c.take_all.new.feed) c.in_err-there.field-0.0 (c.in_err-there.ensures.walk false))
