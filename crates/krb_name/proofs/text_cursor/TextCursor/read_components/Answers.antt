use Rattle.krb_file.proofs.Exits.{err_is}
use Rattle.krb_name.proofs.NameReading.{components_fault, components_end, components_done, at_sign}
use Rattle.krb_name.proofs.text_cursor.TextCursor.read_components.Goals as goal

pub returns-in_err-read_name : goal.returns-in_err-read_name
returns-in_err-read_name c =
    rw (err_is c.from_residual.result c.from_residual.ensures.1) (components_fault c.in_err-read_name.field-0.0 _ _ _ _ c.loop-components.invariant c.in_err-read_name.ensures)

pub returns-in-Some : goal.returns-in-Some
returns-in-Some c =
    let separator = c.in-Some.ensures.some in
    let byte = at_sign c.in-Some.field-0 separator.1 c.in-Some.field-0-test.1 in
    rw (c.in_ok-push.ensures.ok, c.as_slice.ensures) (components_done _ _ _ _ _ c.in-Some.field-0 _ c.loop-components.invariant c.in_ok-read_name.ensures.0 separator.0 byte)

pub returns-in-None : goal.returns-in-None
returns-in-None c = rw c.in-None.ensures.stays (components_end _ _ _ _ _ c.loop-components.invariant c.in_ok-read_name.ensures.0 (c.in-None.ensures.none c.in_ok-read_name.ensures.1))
