use Rattle.std.proofs.Common.{◌≡◌, ◌∙◌, arith, ap, length, refl, rules, Bool, Ok, Err}
use Rattle.krb_ccache.specs.Format.{IsCache}
use Rattle.krb_ccache.specs.Value.{Cache}
use Rattle.krb_ccache.specs.declared.fault.CacheFault.TheVariants.{OutOfMemory}
use Rattle.krb_file_commands.specs.Lines.{ok_line}
use Rattle.krb_file_commands.proofs.FaultLaws.{err_is}
use Rattle.krb_file_commands.proofs.FileLaws.{of_file_map}
use Rattle.krb_file_commands.proofs.ReadingLaws.{cache_read, lacking}
use Rattle.krb_file_commands.proofs.WalkLaws.{credential_counted, cache_told, fault_told, credentials_taken}
use Rattle.krb_file_commands.proofs.count.CountFromCredentials.from_credentials.Goals as goal

pub returns-in_err-pass-clause-made : goal.returns-in_err-pass-clause-made
returns-in_err-pass-clause-made g c =
    let pass = c.in_err-pass.ensures in
    rw (err_is c.from_residual.result c.from_residual.ensures.1) (λ from opened.
    let counted = c.loop-count.invariant.counted from opened in
    cache_read c.each_file_has_one_answer.ensures.one _ _ _ _ _ (Err c.in_err-pass.field-0.0) tt
    (λ memory read. fault_told from (g.S.Source.remaining c.pass.new.self.source) c.in_err-pass.field-0.0 c.a_source_tells_its_file.ensures (pass.fault from counted.cache_read counted.read memory read))
    (credentials_taken g.S.Source.remaining from c.loop-count.reader c.pass.new.self _ counted pass.given pass.limit) (search rules))

pub loop-count-preserved : goal.loop-count-preserved
loop-count-preserved g c =
    let going = c.loop-count.invariant.going in
    let pass = c.in_ok-pass.ensures in
    let one = pass.item going (ap (λ (b : Bool). Ok b) c.if-branch.true) in
    record {
      counted = λ from opened. credential_counted g.S.Source.remaining from c.loop-count.reader c.pass.new.self c.loop-count.count one.0 (c.loop-count.invariant.counted from opened) pass.given pass.limit (one.1.read from);
      going = rw c.if-branch.true at pass.ended going;
      few = omega (arith, one.1.gave.some, c.loop-count.invariant.few);
      limit = omega (arith, one.1.gave.some, one.1.gave.limit, c.loop-count.invariant.few);
      failures = omega (arith, pass.failed going, c.loop-count.invariant.failures);
      lent = pass.lent ∙ c.loop-count.invariant.lent;
    }

pub returns-in_err-ok_line-clause-made : goal.returns-in_err-ok_line-clause-made
returns-in_err-ok_line-clause-made g c =
    let pass = c.in_ok-pass.ensures in
    rw (err_is c.from_residual-in_err-ok_line.result c.from_residual-in_err-ok_line.ensures.1)
    (λ from opened. lacking _ _ _ _ _ _ _ _ _ OutOfMemory refl tt (search rules)
    (credentials_taken g.S.Source.remaining from c.loop-count.reader c.pass.new.self _ (c.loop-count.invariant.counted from opened) pass.given pass.limit))

pub returns-clause-made : goal.returns-clause-made
returns-clause-made g c = λ from opened.
    let counted = c.loop-count.invariant.counted from opened in
    let pass = c.in_ok-pass.ensures in
    let made : c.into_bytes.result.items ≡ ok_line c.loop-count.count = search rules in
    cache_read c.each_file_has_one_answer.ensures.one _ _ _ _ _ (Ok c.into_bytes.result)
    (of_file_map IsCache _ (λ (cache : Cache) (is : c.loop-count.count ≡ length cache.credentials). made ∙ ap ok_line is)
    (cache_told from (g.S.Source.remaining c.pass.new.self.source) _ counted.cache_read c.a_source_tells_its_file.ensures
    (pass.end from counted.cache_read counted.read (ap (λ (b : Bool). Ok b) c.if-branch.false)) counted.holds)) tt
    (credentials_taken g.S.Source.remaining from c.loop-count.reader c.pass.new.self _ counted pass.given pass.limit) (search rules)
