use Rattle.std.proofs.Common.{Err, refl}
use Rattle.krb_file.proofs.Exits.{err_is}
use Rattle.krb_keytab.proofs.StandLaws.{first_next, first_fault}
use Rattle.krb_keytab.proofs.reader.pass_first.Goals as goal

pub returns-in_err-read_version-clause-meets : goal.returns-in_err-read_version-clause-meets
returns-in_err-read_version-clause-meets g c =
    rw (err_is c.from_residual.result c.from_residual.ensures.1) (Err c.in_err-read_version.field-0.0, refl, first_fault _ _ c.in_err-read_version.field-0.0 c.in_err-read_version.ensures.opens c.requires.start)

pub returns-clause-meets : goal.returns-clause-meets
returns-clause-meets g c =
    let past = c.pass_entry.ensures.meets in
    (past.answer, past.said_is, first_next _ _ _ c.in_ok-read_version.field-0 past.answer c.in_ok-read_version.ensures.opens c.requires.start past.meets)
