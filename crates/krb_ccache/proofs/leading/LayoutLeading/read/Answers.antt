use Rattle.krb_ccache.proofs.PartLaws.{IsField-layout}
use Rattle.krb_ccache.proofs.Repeats.{lies_where, missing_where}
use Rattle.krb_ccache.proofs.leading.LayoutLeading.read.Goals as goal

pub returns-clause-read : goal.returns-clause-read
returns-clause-read c = lies_where _ _ _ IsField-layout c.args.cursor.now c.in_ok-read_layout.field-0 c.read_layout.new.cursor c.requires c.in_ok-read_layout.ensures.read

pub returns-in_err-read_layout-clause-missing : goal.returns-in_err-read_layout-clause-missing
returns-in_err-read_layout-clause-missing c = λ missing. missing_where _ _ _ IsField-layout c.args.cursor.now c.in_err-read_layout.ensures.short
