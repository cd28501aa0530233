use Rattle.std.proofs.Common.{refl, rules, inl}
use Rattle.krb_ccache.specs.Format.{IsAnswerOf}
use Rattle.krb_ccache.specs.Format.{written}
use Rattle.krb_ccache.specs.declared.fault.CacheFault.{CacheFault}
use Rattle.krb_ccache.specs.declared.fault.CacheFault.TheVariants.{OutOfMemory, Read, TooLong}
use Rattle.krb_file_commands.specs.Status.{of_cache, cache_reads}
use Rattle.krb_file_commands.proofs.FaultLaws.{err_is}
use Rattle.krb_file_commands.proofs.ConvertLaws.{cache_unwritten, rewritten}
use Rattle.krb_file_commands.proofs.ReadingLaws.{cache_counted, fault_met}
use Rattle.krb_file_commands.proofs.converting.ConvertCcacheProduct.make.Goals as goal

pub returns-in_err-cache : goal.returns-in_err-cache
returns-in_err-cache g c =
    rw (err_is c.from_residual.result c.from_residual.ensures.1)
    (fault_met _ _ _ _ _ _ _ _ _ IsAnswerOf OutOfMemory Read c.read.result c.read.ensures.reads (λ (f : CacheFault). f) c.in_err-cache.field-0.0 c.in_err-cache.was refl refl (λ given is. inl is) tt
    (search (rules, cache_counted)))

pub returns : goal.returns
returns g c =
    rewritten (λ made. made.items) IsAnswerOf OutOfMemory Read TooLong of_cache cache_reads written refl refl refl c.each_file_has_one_answer.ensures.one _ _ _ _ c.read.result c.in_ok-cache.cache c.to_bytes.result
    c.read.ensures.reads c.in_ok-cache.was (search rules) c.to_bytes.ensures.written c.to_bytes.ensures.within (cache_unwritten c.to_bytes.result OutOfMemory TooLong (written c.in_ok-cache.cache) c.to_bytes.ensures.too_long c.to_bytes.ensures.memory)
