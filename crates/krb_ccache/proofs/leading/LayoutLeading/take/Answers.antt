use Rattle.std.proofs.Common.{ap, sym, subst}
use Rattle.krb_file.proofs.Exits.{err_is}
use Rattle.krb_file.specs.Cursor.{Place}
use Rattle.krb_file.specs.Field.{IsBytes}
use Rattle.krb_ccache.specs.Format.{version_of}
use Rattle.krb_ccache.specs.Inner.Stepping.{Any}
use Rattle.krb_ccache.proofs.WalkEnds.{version_walks, version_halts, there_of}
use Rattle.krb_ccache.proofs.leading.LayoutLeading.take.Goals as goal

pub check_version-requires : goal.check_version-requires
check_version-requires g c = subst IsBytes (sym (ap (λ (p : Place). p.rest) c.new-cursor.ensures)) c.are_bytes.ensures

pub returns-clause-walks : goal.returns-clause-walks
returns-clause-walks g c = version_walks (g.F.Feed.hand c.args.feed.now) (g.F.Feed.hand c.take.new.feed) c.in_ok-take.ensures.taken

pub returns-clause-there : goal.returns-clause-there
returns-clause-there g c =
    there_of version_of Any c.bytes-bytes.result.now (g.F.Feed.hand c.take.new.feed).bytes c.new-cursor.result c.check_version.new.cursor c.check_version.result c.is_ok.result c.bytes-bytes.ensures.bytes c.new-cursor.ensures c.is_ok.ensures.value c.check_version.ensures.ok c.check_version.ensures.missing

pub returns-in_err-take-clause-halts : goal.returns-in_err-take-clause-halts
returns-in_err-take-clause-halts g c =
    rw (err_is c.from_residual.result c.from_residual.ensures.1) (version_halts (g.F.Feed.hand c.args.feed.now) (g.F.Feed.hand c.take.new.feed) c.in_err-take.field-0.0 c.in_err-take.ensures.taken)
