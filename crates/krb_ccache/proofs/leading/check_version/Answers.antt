use Rattle.krb_file.proofs.Exits.{err_is}
use Rattle.krb_ccache.proofs.PartLaws.{IsField-layout}
use Rattle.krb_ccache.proofs.Repeats.{lies_where, missing_where}
use Rattle.krb_ccache.proofs.leading.check_version.Goals as goal

pub returns-in_err-read_layout-clause-missing : goal.returns-in_err-read_layout-clause-missing
returns-in_err-read_layout-clause-missing c =
    rw (err_is c.from_residual.result c.from_residual.ensures.1) (missing_where _ _ _ IsField-layout c.args.cursor.now c.in_err-read_layout.ensures.short)

pub returns-clause-ok : goal.returns-clause-ok
returns-clause-ok c = (c.in_ok-read_layout.field-0, lies_where _ _ _ IsField-layout c.args.cursor.now c.in_ok-read_layout.field-0 c.read_layout.new.cursor c.requires c.in_ok-read_layout.ensures.read)
