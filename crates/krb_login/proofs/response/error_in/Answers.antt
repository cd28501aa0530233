use Rattle.std.proofs.Common.{List, ℕ, length, Err, ap, inr, sym, subst}
use Rattle.krb_login.specs.Carrying.{FitsInto}
use Rattle.krb_login.proofs.response.error_in.Goals as goal

pub returns-in-Err-TooLong-wrap-clause-long : goal.returns-in-Err-TooLong-wrap-clause-long
returns-in-Err-TooLong-wrap-clause-long c e =
    inr (
      c.in-Ok.message.items,
      (
        c.in-Ok.ensures.error,
        λ fits. c.in-Err-TooLong-wrap.ensures.too_long (ap Err c.in-Err-TooLong-wrap.field-0-is)
            (subst (λ (bytes : List ℕ). FitsInto c.args.carrier (length bytes)) (sym c.deref.ensures.value) fits),
      ),
    )
