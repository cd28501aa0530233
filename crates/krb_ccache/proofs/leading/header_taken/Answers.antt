use Rattle.std.proofs.Common.{ap, sym, subst}
use Rattle.krb_file.proofs.Exits.{err_is}
use Rattle.krb_file.specs.Cursor.{Place}
use Rattle.krb_file.specs.Field.{IsBytes}
use Rattle.krb_ccache.specs.Spelling.{header_bytes}
use Rattle.krb_ccache.specs.Value.{FitsHeader}
use Rattle.krb_ccache.proofs.WalkEnds.{header_walks, header_halts, there_of}
use Rattle.krb_ccache.proofs.leading.header_taken.Goals as goal

pub check_header-requires : goal.check_header-requires
check_header-requires g c = subst IsBytes (sym (ap (λ (p : Place). p.rest) c.new-cursor.ensures)) c.are_bytes.ensures

pub returns-clause-walks : goal.returns-clause-walks
returns-clause-walks g c = header_walks (g.F.Feed.hand c.args.feed.now) (g.F.Feed.hand c.take_header.new.feed) c.in_ok-take_header.ensures.walk

pub returns-clause-there : goal.returns-clause-there
returns-clause-there g c =
    there_of header_bytes FitsHeader c.bytes-bytes.result.now (g.F.Feed.hand c.take_header.new.feed).bytes c.new-cursor.result c.check_header.new.cursor c.check_header.result c.is_ok.result c.bytes-bytes.ensures.bytes c.new-cursor.ensures c.is_ok.ensures.value c.check_header.ensures.ok c.check_header.ensures.missing

pub returns-in_err-take_header-clause-halts : goal.returns-in_err-take_header-clause-halts
returns-in_err-take_header-clause-halts g c =
    rw (err_is c.from_residual.result c.from_residual.ensures.1) (header_halts (g.F.Feed.hand c.args.feed.now) (g.F.Feed.hand c.take_header.new.feed) c.in_err-take_header.field-0.0 c.in_err-take_header.ensures.walk)
