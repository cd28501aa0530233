use Rattle.std.proofs.Common.{refl, rules, Ok, Err}
use Rattle.krb_ccache.specs.Format.{IsCache, IsAnswerOf}
use Rattle.krb_ccache.specs.declared.fault.CacheFault.{CacheFault}
use Rattle.krb_ccache.specs.declared.fault.CacheFault.TheVariants.{OutOfMemory, Read}
use Rattle.krb_file_commands.proofs.FaultLaws.{err_is, no_ok}
use Rattle.krb_file_commands.proofs.FileLaws.{of_file}
use Rattle.krb_file_commands.proofs.ReadingLaws.{cache_counted, fault_met, lacking, value_made}
use Rattle.krb_file_commands.proofs.listing.table_of_ccache.Goals as goal

pub returns-in_err-cache : goal.returns-in_err-cache
returns-in_err-cache g c =
    rw (err_is c.from_residual.result c.from_residual.ensures.1)
    (fault_met _ _ _ _ _ _ _ _ _ IsAnswerOf OutOfMemory Read c.read.result c.read.ensures.reads (λ (f : CacheFault). f) c.in_err-cache.field-0.0 c.in_err-cache.was refl refl (λ given is. is) tt
    (search (rules, cache_counted)))

pub returns-in_err-table : goal.returns-in_err-table
returns-in_err-table g c =
    rw (err_is c.from_residual-in_err-table.result c.from_residual-in_err-table.ensures.1)
    (lacking _ _ _ _ _ _ _ _ _ OutOfMemory refl tt (search rules) c.read.ensures.reads.taken)

pub returns : goal.returns
returns g c =
    value_made _ _ _ _ _ _ _ _ _ IsAnswerOf OutOfMemory Read c.read.result c.read.ensures.reads c.in_ok-cache.cache c.into_bytes.result c.in_ok-cache.was
    (of_file IsCache _ c.in_ok-cache.cache _ c.in_ok-cache.ensures.reads.found (search rules))
    (λ given e is has. no_ok c.in_ok-cache.cache e (c.each_file_has_one_answer.ensures.one given (Ok c.in_ok-cache.cache) (Err e) is has)) (search rules)
