use Rattle.std.proofs.Common.{inl, inr, ap, length, ◌∙◌}
use Rattle.std.specs.Prelude.{Ok}
use Rattle.krb_ccache.specs.Value.{Cache}
use Rattle.krb_ccache.specs.declared.fault.CacheFault.{CacheFault}
use Rattle.krb_ccache.specs.declared.fault.CacheFault.TheVariants.{OutOfMemory}
use Rattle.krb_c.specs.Answer.{sized}
use Rattle.krb_c.specs.Request.{cache_answer}
use Rattle.krb_c.specs.Codes.{ok}
use Rattle.krb_c.proofs.ServiceLaws.{wanting, same_value}
use Rattle.krb_c.proofs.cache.fevstunik_cache_check.Goals as goal

pub returns-in-Ok-clause-credentials : goal.returns-in-Ok-clause-credentials
returns-in-Ok-clause-credentials c = λ value is. inl ((rw c.credentials.ensures at c.sized.ensures) ∙ ap (λ (v : Cache). sized ok (length v.credentials))
    (same_value Cache CacheFault OutOfMemory cache_answer c.in-Ok.cache value (c.in-Ok.ensures.only (Ok value) is)))

pub returns-in-Err-clause-credentials : goal.returns-in-Err-clause-credentials
returns-in-Err-clause-credentials c = λ value is.
    inr (wanting Cache CacheFault OutOfMemory cache_answer c.cache_told.result c.in-Err.fault value c.cache_told.ensures (c.in-Err.ensures.only (Ok value) is))
