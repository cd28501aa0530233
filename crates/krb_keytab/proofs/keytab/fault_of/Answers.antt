use Rattle.krb_keytab.proofs.EditLaws.{same_fault, searched}
use Rattle.krb_keytab.proofs.keytab.fault_of.Goals as goal

pub returns-in-Ok-clause-exact : goal.returns-in-Ok-clause-exact
returns-in-Ok-clause-exact c = λ fault f. absurd (searched c.args.bytes.now 0 c.in-Ok.field-0 fault c.in-Ok.ensures f)

pub returns-in-Err-clause-exact : goal.returns-in-Err-clause-exact
returns-in-Err-clause-exact c = λ fault f. same_fault c.args.bytes.now c.in-Err.fault fault c.in-Err.ensures f
