use Rattle.std.proofs.Common.{◌∙◌, ap, take, refl, sym, subst, arith}
use Rattle.std.proofs.lemmas.Result.{err_from_is_err_and}
use Rattle.krb_context.specs.Inner.Forms.{IsFlagFault}
use Rattle.krb_context.specs.declared.fault.MessageFault.{MessageFault}
use Rattle.krb_context.proofs.Wraps.{wrap_flag_fault, wrap_form_of}
use Rattle.krb_context.proofs.direction.Direction.wrap_form.Goals as goal

pub returns-in_default-clause-fault : goal.returns-in_default-clause-fault
returns-in_default-clause-fault c flags form =
    c.in_default.ensures.none refl flags form.extra form.rotation form.number form.extra_fits form.rotation_fits form.fits
    (c.split_at.ensures.front ∙ ap (take 16) form.whole)

pub returns-in_err-check_flags-clause-fault : goal.returns-in_err-check_flags-clause-fault
returns-in_err-check_flags-clause-fault c =
    let p = err_from_is_err_and c.from_residual.result c.from_residual.ensures.1 in
    let header = c.in-Some.header in
    let form = wrap_form_of c.args.self.now c.args.token.now c.split_at.result.0.now c.split_at.result.1.now header.flags header.extra header.rotation header.number
    c.split_at.ensures.front c.split_at.ensures.back c.in-Some.ensures.found (omega arith) (omega arith) (omega arith) (c.has_room.ensures.0 c.if-not-has_room.false) in
    rw p.1 (wrap_flag_fault c.args.self.now c.args.token.now header.flags p.0 form
    (subst (λ (f : MessageFault). IsFlagFault c.args.self.now header.flags f) (sym p.2) (rw c.self.view_is at c.in_err-check_flags.ensures.fault)))
