use Rattle.std.proofs.Common.{refl, subst, sym}
use Rattle.std.proofs.lemmas.Result.{err_from_is_err_and}
use Rattle.krb_gss.specs.declared.fault.TokenFault.{TokenFault}
use Rattle.krb_call_lines.specs.Forms.{IsUnopened}
use Rattle.krb_call_lines.specs.declared.form.Form.TheVariants.{Token}
use Rattle.krb_call_lines.proofs.form.opened_request.Goals as goal

pub returns-in_err-opened-clause-fault : goal.returns-in_err-opened-clause-fault
returns-in_err-opened-clause-fault c =
    let p = err_from_is_err_and c.from_residual.result c.from_residual.ensures.1 in
    let unopened : IsUnopened Token c.args.token.now c.in_err-opened.field-0.0 = record {
      form_is = refl;
      none = c.in_err-opened.ensures.only;
      fault_is = c.in_err-opened.ensures.faulty;
    } in
    rw p.1 (subst (λ (fault : TokenFault). IsUnopened Token c.args.token.now fault) (sym p.2) unopened)
