use Rattle.std.proofs.Common.{refl}
use Rattle.krb_file_commands.proofs.FaultLaws.{err_is}
use Rattle.krb_service_command.proofs.ExplainLaws.{read_message, unread, unspelled}
use Rattle.krb_service_command.proofs.text.read_message.Goals as goal

pub returns-in_err-text : goal.returns-in_err-text
returns-in_err-text g c =
    rw (err_is c.from_residual.result c.from_residual.ensures.1)
    (unread _ _ _ _ _ c.in_err-text.field-0.0 c.in_err-text.ensures.unread c.in_err-text.ensures.failed c.in_err-text.ensures.taken)

pub returns-in_err-bytes : goal.returns-in_err-bytes
returns-in_err-bytes g c =
    let fault = rw c.deref.ensures.value at c.in_err-bytes.ensures.fault in
    rw (err_is c.from_residual-in_err-bytes.result c.from_residual-in_err-bytes.ensures.1)
    (unspelled _ _ _ _ _ c.in_ok-text.text.items c.in_err-bytes.field-0.0 c.in_ok-text.ensures.text fault
    c.in_ok-text.ensures.failed c.in_ok-text.ensures.taken)

pub returns : goal.returns
returns g c =
    let spelled = rw c.deref.ensures.value at c.in_ok-bytes.ensures.bytes in
    read_message _ _ _ _ c.in_ok-text.text.items c.in_ok-bytes.bytes.items c.in_ok-text.ensures.text spelled
    c.in_ok-bytes.bytes (λ v. v.items) refl c.in_ok-text.ensures.failed c.in_ok-text.ensures.taken
