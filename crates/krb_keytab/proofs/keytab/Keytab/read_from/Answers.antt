use Rattle.std.proofs.Common.{Ok, Err}
use Rattle.krb_file.proofs.FileLaws.{reads_whole}
use Rattle.krb_keytab.proofs.OneAnswer.{keytab_answers}
use Rattle.krb_keytab.proofs.keytab.Keytab.read_from.Goals as goal

pub returns-in_ok-of_entries-in-Ok-clause-reads : goal.returns-in_ok-of_entries-in-Ok-clause-reads
returns-in_ok-of_entries-in-Ok-clause-reads g c =
    rw c.in_ok-of_entries-in-Ok.ensures (reads_whole keytab_answers (g.F.Feed.hand c.args.feed.now).source (g.F.Feed.hand c.read_entries.new.feed).source (Ok c.in-Ok.entries) c.in-Ok.ensures.found tt c.read_entries.ensures.taken)

pub returns-in-Err-clause-reads : goal.returns-in-Err-clause-reads
returns-in-Err-clause-reads g c = reads_whole keytab_answers (g.F.Feed.hand c.args.feed.now).source (g.F.Feed.hand c.read_entries.new.feed).source (Err c.in-Err.fault) tt c.in-Err.ensures.fault c.read_entries.ensures.taken
