use Rattle.std.proofs.Common.{Err, inl}
use Rattle.krb_file.proofs.Exits.{err_is}
use Rattle.krb_ccache.proofs.AnswerLaws.{one_answer, no_fault}
use Rattle.krb_ccache.proofs.cache.CCache.parse.Goals as goal

pub returns-in_err-count-clause-only : goal.returns-in_err-count-clause-only
returns-in_err-count-clause-only c = λ answer a.
    rw (err_is c.from_residual.result c.from_residual.ensures.1) (inl (one_answer c.args.bytes.now (Err c.in_err-count.field-0.0) answer c.in_err-count.ensures.fault a))

pub returns-in-Ok-clause-faulty : goal.returns-in-Ok-clause-faulty
returns-in-Ok-clause-faulty c = λ fault faulty.
    let cache = c.in_ok-count.ensures.ok in
    absurd (no_fault c.args.bytes.now cache.0 fault cache.1 faulty)

pub returns-in-Err-clause-faulty : goal.returns-in-Err-clause-faulty
returns-in-Err-clause-faulty c = λ fault faulty.
    let cache = c.in_ok-count.ensures.ok in
    absurd (no_fault c.args.bytes.now cache.0 fault cache.1 faulty)
