use Rattle.krb_file.proofs.Exits.{err_is}
use Rattle.krb_name.proofs.NameChecks.{check_realm_refused, check_refused, checked}
use Rattle.krb_name.proofs.principal.Principal.check_text.Goals as goal

pub returns-in_err-count : goal.returns-in_err-count
returns-in_err-count c =
    rw (err_is c.from_residual.result c.from_residual.ensures.1) (check_refused _ _ _ c.in_err-count.field-0.0 c.new-cursor.ensures c.in_err-count.ensures)

pub returns-in_err-skip_realm : goal.returns-in_err-skip_realm
returns-in_err-skip_realm c =
    rw (err_is c.from_residual-in_err-skip_realm.result c.from_residual-in_err-skip_realm.ensures.1) (check_realm_refused _ _ _ _ _ c.in_err-skip_realm.field-0.0 c.new-cursor.ensures c.in_ok-count.ensures c.in_err-skip_realm.ensures)

pub returns : goal.returns
returns c = checked _ _ _ _ _ _ c.new-cursor.ensures c.in_ok-count.ensures c.in_ok-skip_realm.ensures
