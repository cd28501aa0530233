use Rattle.krb_keytab.proofs.EditLaws.{no_fault}
use Rattle.krb_keytab.proofs.OneAnswer.{only_fault}
use Rattle.krb_keytab.proofs.keytab.Keytab.parse.Goals as goal

pub returns-in-Ok-clause-faulty : goal.returns-in-Ok-clause-faulty
returns-in-Ok-clause-faulty c =
    let found = rw c.new.ensures at c.in-Ok.ensures.reads.found in
    λ fault f. absurd (no_fault c.args.bytes.now c.in-Ok.keytab fault found f)

pub returns-in-Err-clause-only : goal.returns-in-Err-clause-only
returns-in-Err-clause-only c = λ answer a. only_fault c.args.bytes.now c.fault_of.result answer c.fault_of.ensures.fault a
