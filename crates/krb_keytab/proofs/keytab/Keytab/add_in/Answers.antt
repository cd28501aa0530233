use Rattle.std.proofs.Common.{Err, ap}
use Rattle.krb_file.proofs.Exits.{err_is}
use Rattle.krb_keytab.proofs.EditLaws.{same_fault}
use Rattle.krb_keytab.proofs.AddLaws.{passing_no_fault, found_no_fault}
use Rattle.krb_keytab.proofs.keytab.Keytab.add_in.Goals as goal

pub returns-in_err-room-clause-fault : goal.returns-in_err-room-clause-fault
returns-in_err-room-clause-fault c = λ other h.
    let fault = rw c.deref.ensures.value at c.in_err-room.ensures in
    rw (err_is c.from_residual.result c.from_residual.ensures.1) (ap (λ x. Err x) (same_fault c.args.file.now.items c.in_err-room.field-0.0 other fault h))

pub returns-in_err-room-clause-too_long : goal.returns-in_err-room-clause-too_long
returns-in_err-room-clause-too_long c = λ passes. absurd (passing_no_fault c.in_err-room.field-0.0 passes (rw c.deref.ensures.value at c.in_err-room.ensures))

pub returns-clause-fault : goal.returns-clause-fault
returns-clause-fault c = λ other h. absurd (found_no_fault _ _ c.in_ok-room.room other (rw c.deref.ensures.value at c.in_ok-room.ensures) h)
