use Rattle.std.proofs.lemmas.Result.{err_from_is_err_and}
use Rattle.krb_gss.proofs.ChecksumLaws.{not_faulty, one_value, checksum-found}
use Rattle.krb_gss.proofs.checksum.Checksum.parse.Goals as goal

pub returns-in_err-bindings-clause-only : goal.returns-in_err-bindings-clause-only
returns-in_err-bindings-clause-only c =
    let p = err_from_is_err_and c.from_residual.result c.from_residual.ensures.1 in
    rw p.1 (λ x h. not_faulty x c.args.bytes.now h c.in_err-bindings.field-0.0 c.in_err-bindings.ensures.faulty)

pub returns-in_err-delegation-clause-only : goal.returns-in_err-delegation-clause-only
returns-in_err-delegation-clause-only c =
    let p = err_from_is_err_and c.from_residual-in_err-delegation.result c.from_residual-in_err-delegation.ensures.1 in
    rw p.1
    (λ x h.
    not_faulty x c.args.bytes.now h c.in_err-delegation.field-0.0
    (c.in_err-delegation.ensures.faulty c.in_ok-bindings.bindings c.args.bytes.now c.in_ok-bindings.ensures.found))

pub returns-in_err-delegation-clause-faulty : goal.returns-in_err-delegation-clause-faulty
returns-in_err-delegation-clause-faulty c =
    let p = err_from_is_err_and c.from_residual-in_err-delegation.result c.from_residual-in_err-delegation.ensures.1 in
    rw (p.1, p.2) (c.in_err-delegation.ensures.faulty c.in_ok-bindings.bindings c.args.bytes.now c.in_ok-bindings.ensures.found)

pub returns-clause-only : goal.returns-clause-only
returns-clause-only c =
    λ x h.
    one_value _ x c.args.bytes.now
    (checksum-found c.in_ok-bindings.flags.0 c.in_ok-bindings.bindings c.in_ok-bindings.after.now c.args.bytes.now c.in_ok-delegation.delegation c.in_ok-delegation.extensions
    c.in_ok-bindings.ensures.found c.in_ok-delegation.ensures.found)
    h
