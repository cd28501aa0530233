use Rattle.std.proofs.Common.{refl, rules, Ok, Err}
use Rattle.krb_keytab.specs.Format.{IsKeytab, IsAnswerOf}
use Rattle.krb_keytab.specs.declared.fault.KeytabFault.{KeytabFault}
use Rattle.krb_keytab.specs.declared.fault.KeytabFault.TheVariants.{OutOfMemory, Read}
use Rattle.krb_file_commands.proofs.FaultLaws.{err_is, no_ok}
use Rattle.krb_file_commands.proofs.FileLaws.{of_file}
use Rattle.krb_file_commands.proofs.ReadingLaws.{keytab_counted, fault_met, lacking, value_made}
use Rattle.krb_service_command.proofs.explain_keys.page_by.Goals as goal

pub returns-in_err-keytab : goal.returns-in_err-keytab
returns-in_err-keytab g c =
    rw (err_is c.from_residual.result c.from_residual.ensures.1)
    (fault_met _ _ _ _ _ _ _ _ _ IsAnswerOf OutOfMemory Read c.read.result c.read.ensures.reads (λ (f : KeytabFault). f) c.in_err-keytab.field-0.0 c.in_err-keytab.was refl refl (λ given is. is) tt
    (search (rules, keytab_counted)))

pub returns-in_err-page : goal.returns-in_err-page
returns-in_err-page g c =
    rw (err_is c.from_residual-in_err-page.result c.from_residual-in_err-page.ensures.1)
    (lacking _ _ _ _ _ _ _ _ _ OutOfMemory refl tt (search rules) c.read.ensures.reads.taken)

pub returns : goal.returns
returns g c =
    value_made _ _ _ _ _ _ _ _ _ IsAnswerOf OutOfMemory Read c.read.result c.read.ensures.reads c.in_ok-keytab.keytab c.into_bytes.result c.in_ok-keytab.was
    (of_file IsKeytab _ c.in_ok-keytab.keytab _ c.in_ok-keytab.ensures.reads.found
    (record { served = c.served_by-served.result; served_are = c.served_by-served.ensures; explains = search rules }))
    (λ given e is has. no_ok c.in_ok-keytab.keytab e (c.each_file_has_one_answer.ensures.one given (Ok c.in_ok-keytab.keytab) (Err e) is has)) (search rules)
