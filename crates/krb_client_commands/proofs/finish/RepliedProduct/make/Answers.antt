use Rattle.std.proofs.Common.{ap, refl, rules, Err}
use Rattle.krb_ccache.specs.Format.{IsAnswerOf, IsCache}
use Rattle.krb_ccache.specs.declared.fault.CacheFault.TheVariants.{OutOfMemory, Read}
use Rattle.krb_ap.specs.declared.finish.FinishFault.{FinishFault}
use Rattle.krb_client_commands.specs.Status.{of_finish, of_request}
use Rattle.krb_client_commands.specs.declared.fault.ClientFault.TheVariants as of
use Rattle.krb_file_commands.proofs.FaultLaws.{err_is, if_some_map}
use Rattle.krb_file_commands.proofs.FileLaws.{of_file}
use Rattle.krb_file_commands.proofs.ReadingLaws.{cache_counted, fault_met, lacking, value_made}
use Rattle.krb_client_commands.proofs.FinishLaws.{none_unfinished}
use Rattle.krb_client_commands.proofs.finish.RepliedProduct.make.Goals as goal

pub returns-in_err-cache : goal.returns-in_err-cache
returns-in_err-cache g c =
    rw (err_is c.from_residual.result c.from_residual.ensures.1)
    (fault_met _ _ _ _ _ _ _ _ _ IsAnswerOf OutOfMemory Read c.read.result c.read.ensures.reads of.Cache c.in_err-cache.field-0.0 c.in_err-cache.was refl refl (λ given is. is) tt
    (search (rules, cache_counted)))

pub returns-in_err-answer : goal.returns-in_err-answer
returns-in_err-answer g c =
    let found = c.in_ok-cache.ensures.reads.found in
    let cache = c.in_ok-cache.cache in
    rw (err_is c.from_residual-in_err-answer.result c.from_residual-in_err-answer.ensures.1) (record {
      made = tt;
      fault = λ content. if_some_map (g.S.Source.remaining c.args.source.now) (λ given is. (cache, (is, c.in_err-answer.ensures.fault (λ memory. content (ap of_request memory))))) found;
      faulty = λ given e tells has. tt;
      allowed = λ memory. of_file IsCache (g.S.Source.remaining c.args.source.now) cache _ found (search rules);
      reads = search rules;
      taken = c.read.ensures.reads.taken;
    })

pub returns-in_err-agreed : goal.returns-in_err-agreed
returns-in_err-agreed g c =
    let found = c.in_ok-cache.ensures.reads.found in
    let cache = c.in_ok-cache.cache in
    let refused = rw (c.in_err-agreed.was, c.deref.ensures.value) at c.in_ok-answer.ensures.refused in
    let unread = rw (c.in_err-agreed.was, c.deref.ensures.value) at c.in_ok-answer.ensures.unread_reply in
    rw (err_is c.from_residual-in_err-agreed.result c.from_residual-in_err-agreed.ensures.1) (record {
      made = tt;
      fault = λ content. if_some_map (g.S.Source.remaining c.args.source.now) (λ given is. (cache, (is, refused (λ memory. content (ap of_finish memory))))) found;
      faulty = λ given e tells has. tt;
      allowed = λ memory. of_file IsCache (g.S.Source.remaining c.args.source.now) cache _ found (unread (ap (λ (f : FinishFault). Err f) memory));
      reads = search rules;
      taken = c.read.ensures.reads.taken;
    })

pub returns-in_err-line : goal.returns-in_err-line
returns-in_err-line g c =
    let agreement = rw (c.in_ok-agreed.was, c.deref.ensures.value) at c.in_ok-answer.ensures.agreed in
    rw (err_is c.from_residual-in_err-line.result c.from_residual-in_err-line.ensures.1)
    (lacking _ _ _ _ _ _ _ _ _ of.OutOfMemory refl (of_file IsCache _ c.in_ok-cache.cache _ c.in_ok-cache.ensures.reads.found (c.in_ok-agreed.agreed, agreement)) (search rules) c.read.ensures.reads.taken)

pub returns : goal.returns
returns g c =
    let agreement = rw (c.in_ok-agreed.was, c.deref.ensures.value) at c.in_ok-answer.ensures.agreed in
    value_made _ _ _ _ _ _ _ _ _ IsAnswerOf OutOfMemory Read c.read.result c.read.ensures.reads c.in_ok-cache.cache c.into_bytes.result c.in_ok-cache.was
    (of_file IsCache _ c.in_ok-cache.cache _ c.in_ok-cache.ensures.reads.found (record { agreed = c.in_ok-agreed.agreed; agreement = agreement; line_is = search rules }))
    (λ given e is has. none_unfinished c.each_file_has_one_answer.ensures.one c.built_or_prevented.ensures.one c.built_or_prevented.ensures.apart c.agreed_or_refused.ensures.apart c.args.self.now given c.in_ok-cache.cache c.in_ok-agreed.agreed is agreement e has) (search rules)
