use Rattle.std.proofs.Common.{Ok, Err}
use Rattle.krb_file.proofs.Exits.{err_is}
use Rattle.krb_name.proofs.NameAnswers.{components_refused, realm_refused, name_read}
use Rattle.krb_name.proofs.OneAnswer.{one_answer}
use Rattle.krb_name.proofs.principal.Principal.from_text.Goals as goal

pub returns-in_err-components-clause-only : goal.returns-in_err-components-clause-only
returns-in_err-components-clause-only c =
    rw (err_is c.from_residual.result c.from_residual.ensures.1) (λ answer read. one_answer c.args.text.now (Err c.in_err-components.field-0.0) answer (components_refused _ _ _ _ c.new-cursor.ensures c.in_err-components.ensures) read)

pub returns-in_err-realm-clause-read : goal.returns-in_err-realm-clause-read
returns-in_err-realm-clause-read c =
    rw (err_is c.from_residual-in_err-realm.result c.from_residual-in_err-realm.ensures.1) (realm_refused _ _ _ _ _ c.in_err-realm.field-0.0 c.new-cursor.ensures c.in_ok-components.ensures c.in_err-realm.ensures)

pub returns-in_err-realm-clause-only : goal.returns-in_err-realm-clause-only
returns-in_err-realm-clause-only c =
    rw (err_is c.from_residual-in_err-realm.result c.from_residual-in_err-realm.ensures.1) (λ answer read. one_answer c.args.text.now (Err c.in_err-realm.field-0.0) answer (realm_refused _ _ _ _ _ _ c.new-cursor.ensures c.in_ok-components.ensures c.in_err-realm.ensures) read)

pub returns-clause-only : goal.returns-clause-only
returns-clause-only c = λ answer read. one_answer c.args.text.now (Ok _) answer (name_read _ _ _ _ _ _ _ c.new-cursor.ensures c.in_ok-components.ensures c.in_ok-realm.ensures) read
