use Rattle.std.proofs.Common.{Ok, Err}
use Rattle.krb_file.proofs.Exits.{err_is}
use Rattle.krb_file.proofs.FileLaws.{gives_then, takes_file, reads_whole}
use Rattle.krb_ccache.proofs.SourceLaws.{cache_answers}
use Rattle.krb_ccache.proofs.cache.CCache.read_from.Goals as goal

pub returns-in_err-start-clause-reads : goal.returns-in_err-start-clause-reads
returns-in_err-start-clause-reads g c =
    let hand = g.F.Feed.hand in
    rw (err_is c.from_residual.result c.from_residual.ensures.1) (reads_whole cache_answers _ _ (Err c.in_err-start.field-0.0) tt c.in_err-start.ensures.fault (takes_file _ _ _ _ c.requires.start c.in_err-start.ensures.gave))

pub returns-in_err-credentials-clause-reads : goal.returns-in_err-credentials-clause-reads
returns-in_err-credentials-clause-reads g c =
    let hand = g.F.Feed.hand in
    let start = c.in_ok-start.start in
    let gave = gives_then (hand c.args.feed.now).source (hand c.begin.new.feed).source (hand c.steps.new.feed).source _ _ _ c.in_ok-start.ensures.gave c.in_err-credentials.ensures.gave in
    let fault = c.in_err-credentials.ensures.fault (hand c.args.feed.now).source start.header.items start.default_principal c.in_ok-start.ensures.taken in
    rw (err_is c.from_residual-in_err-credentials.result c.from_residual-in_err-credentials.ensures.1) (reads_whole cache_answers _ _ (Err c.in_err-credentials.field-0.0) tt fault (takes_file _ _ _ _ c.requires.start gave))

pub returns-clause-reads : goal.returns-clause-reads
returns-clause-reads g c =
    let hand = g.F.Feed.hand in
    let start = c.in_ok-start.start in
    let gave = gives_then (hand c.args.feed.now).source (hand c.begin.new.feed).source (hand c.steps.new.feed).source _ _ _ c.in_ok-start.ensures.gave c.in_ok-credentials.ensures.gave in
    let found = c.in_ok-credentials.ensures.end (hand c.args.feed.now).source start.header.items start.default_principal c.in_ok-start.ensures.taken in
    rw c.in_ok-finish.ensures (reads_whole cache_answers _ _ (Ok _) found tt (takes_file _ _ _ _ c.requires.start gave))
