use Rattle.std.proofs.Common.{List, inl, inr, ap, length, ◌∙◌}
use Rattle.std.specs.Prelude.{Ok, Err}
use Rattle.krb_keytab.specs.Entry.{KeytabEntry}
use Rattle.krb_keytab.specs.declared.fault.KeytabFault.{KeytabFault}
use Rattle.krb_keytab.specs.declared.fault.KeytabFault.TheVariants.{OutOfMemory}
use Rattle.krb_c.specs.Answer.{keytab_answer, sized}
use Rattle.krb_c.specs.Codes.{ok}
use Rattle.krb_c.proofs.ServiceLaws.{wanting, same_fault, same_value, no_fault}
use Rattle.krb_c.proofs.keytab.fevstunik_keytab_check.Goals as goal

pub returns-in-Ok-clause-entries : goal.returns-in-Ok-clause-entries
returns-in-Ok-clause-entries c = λ entries keytab. inl (c.sized.ensures ∙ ap (λ (es : List KeytabEntry). sized ok (length es))
    (c.entries.ensures ∙ same_value (List KeytabEntry) KeytabFault OutOfMemory keytab_answer c.in-Ok.keytab entries (c.in-Ok.ensures.only (Ok entries) keytab)))

pub returns-in-Ok-clause-fault : goal.returns-in-Ok-clause-fault
returns-in-Ok-clause-fault c = λ fault faulty.
    absurd (no_fault (List KeytabEntry) KeytabFault OutOfMemory keytab_answer c.in-Ok.keytab fault (c.in-Ok.ensures.only (Err fault) faulty))

pub returns-in-Err-clause-entries : goal.returns-in-Err-clause-entries
returns-in-Err-clause-entries c = λ entries keytab.
    inr (wanting (List KeytabEntry) KeytabFault OutOfMemory keytab_answer c.keytab-in-Err.result c.in-Err.fault entries c.keytab-in-Err.ensures (c.in-Err.ensures.only (Ok entries) keytab))

pub returns-in-Err-clause-fault : goal.returns-in-Err-clause-fault
returns-in-Err-clause-fault c = λ fault faulty.
    same_fault (List KeytabEntry) KeytabFault OutOfMemory keytab_answer c.keytab-in-Err.result c.in-Err.fault fault c.keytab-in-Err.ensures (c.in-Err.ensures.faulty fault faulty)
