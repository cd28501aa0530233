use Rattle.std.proofs.Common.{◌≡◌, rules, string_bytes}
use Rattle.krb_explain.specs.Explained.{IsExplanation}
use Rattle.krb_file_commands.proofs.FaultLaws.{err_is}
use Rattle.krb_service_command.proofs.ExplainLaws.{explained, no_page, unread_made}
use Rattle.krb_service_command.proofs.explain.ExplainProduct.make.Goals as goal

pub returns-in_err-bytes : goal.returns-in_err-bytes
returns-in_err-bytes g c =
    rw (err_is c.from_residual.result c.from_residual.ensures.1)
    (unread_made _ _ _ _ (λ message. message.items) _ c.in_err-bytes.field-0.0 c.in_err-bytes.ensures)

pub returns-in_err-page : goal.returns-in_err-page
returns-in_err-page g c =
    rw (err_is c.from_residual-in_err-page.result c.from_residual-in_err-page.ensures.1)
    (no_page _ _ _ _ (λ message. message.items) _ c.in_ok-bytes.bytes c.in_ok-bytes.ensures)

pub returns : goal.returns
returns g c =
    let explains : IsExplanation c.in_ok-bytes.bytes.items (string_bytes c.in_ok-page.page) = search rules in
    let is : c.into_bytes.result.items ≡ string_bytes c.in_ok-page.page = search rules in
    explained _ _ _ _ (λ message. message.items) c.in_ok-bytes.bytes c.into_bytes.result (λ page. page.items) (rw is explains) c.in_ok-bytes.ensures
