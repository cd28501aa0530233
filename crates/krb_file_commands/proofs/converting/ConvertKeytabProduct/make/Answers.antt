use Rattle.std.proofs.Common.{refl, rules, inl}
use Rattle.krb_keytab.specs.Format.{IsAnswerOf}
use Rattle.krb_keytab.specs.Written.{written}
use Rattle.krb_keytab.specs.declared.fault.KeytabFault.{KeytabFault}
use Rattle.krb_keytab.specs.declared.fault.KeytabFault.TheVariants.{OutOfMemory, Read, TooLong}
use Rattle.krb_file_commands.specs.Status.{of_keytab, keytab_reads}
use Rattle.krb_file_commands.proofs.FaultLaws.{err_is}
use Rattle.krb_file_commands.proofs.ConvertLaws.{keytab_unwritten, rewritten}
use Rattle.krb_file_commands.proofs.ReadingLaws.{keytab_counted, fault_met}
use Rattle.krb_file_commands.proofs.converting.ConvertKeytabProduct.make.Goals as goal

pub returns-in_err-keytab : goal.returns-in_err-keytab
returns-in_err-keytab g c =
    rw (err_is c.from_residual.result c.from_residual.ensures.1)
    (fault_met _ _ _ _ _ _ _ _ _ IsAnswerOf OutOfMemory Read c.read.result c.read.ensures.reads (λ (f : KeytabFault). f) c.in_err-keytab.field-0.0 c.in_err-keytab.was refl refl (λ given is. inl is) tt
    (search (rules, keytab_counted)))

pub returns : goal.returns
returns g c =
    rewritten (λ made. made.items) IsAnswerOf OutOfMemory Read TooLong of_keytab keytab_reads written refl refl refl c.each_file_has_one_answer.ensures.one _ _ _ _ c.read.result c.in_ok-keytab.keytab c.to_bytes.result
    c.read.ensures.reads c.in_ok-keytab.was (search rules) c.to_bytes.ensures.written c.to_bytes.ensures.within (keytab_unwritten c.to_bytes.result (written c.in_ok-keytab.keytab) c.to_bytes.ensures.fault)
