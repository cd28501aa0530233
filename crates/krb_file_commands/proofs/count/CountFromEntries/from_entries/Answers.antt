use Rattle.std.proofs.Common.{◌∙◌, arith, ap, refl, rules, Bool, Ok, Err}
use Rattle.krb_keytab.specs.Format.{IsKeytab}
use Rattle.krb_keytab.specs.declared.fault.KeytabFault.TheVariants.{OutOfMemory}
use Rattle.krb_file_commands.specs.Lines.{ok_line}
use Rattle.krb_file_commands.proofs.FaultLaws.{err_is}
use Rattle.krb_file_commands.proofs.FileLaws.{of_file_map}
use Rattle.krb_file_commands.proofs.ReadingLaws.{keytab_read, lacking}
use Rattle.krb_file_commands.proofs.WalkLaws.{one_counted, all_given, fault_given, entries_taken}
use Rattle.krb_file_commands.proofs.count.CountFromEntries.from_entries.Goals as goal

pub returns-in_err-pass-clause-made : goal.returns-in_err-pass-clause-made
returns-in_err-pass-clause-made g c =
    let pass = c.in_err-pass.ensures in
    rw (err_is c.from_residual.result c.from_residual.ensures.1)
    (keytab_read c.each_file_has_one_answer.ensures.one _ _ _ _ _ (Err c.in_err-pass.field-0.0) tt
    (fault_given _ _ _ c.loop-count.reader c.pass.new.self _ c.in_err-pass.field-0.0 c.a_reader_tells_the_file.ensures.fault c.loop-count.invariant.counted pass.reads pass.stage)
    (entries_taken _ _ _ c.loop-count.reader c.pass.new.self _ _ c.loop-count.invariant.counted pass.reads pass.limit) (search rules))

pub loop-count-preserved : goal.loop-count-preserved
loop-count-preserved g c =
    let more = c.in_ok-pass.ensures.more (ap (λ (b : Bool). Ok b) c.if-branch.true) in
    let failed = rw c.loop-count.invariant.going at c.in_ok-pass.ensures.failed in
    record {
      counted = one_counted _ _ _ c.loop-count.reader c.pass.new.self c.loop-count.count c.loop-count.invariant.counted (rw c.if-branch.true at c.in_ok-pass.ensures.reads);
      going = rw (c.in_ok-pass.ensures.stage, c.if-branch.true) refl;
      few = omega (arith, more.0, c.loop-count.invariant.few);
      limit = omega (arith, more.0, more.1, c.loop-count.invariant.few);
      failures = omega (arith, failed, c.loop-count.invariant.failures);
      lent = c.in_ok-pass.ensures.lent ∙ c.loop-count.invariant.lent;
    }

pub returns-in_err-ok_line-clause-made : goal.returns-in_err-ok_line-clause-made
returns-in_err-ok_line-clause-made g c =
    rw (err_is c.from_residual-in_err-ok_line.result c.from_residual-in_err-ok_line.ensures.1)
    (lacking _ _ _ _ _ _ _ _ _ OutOfMemory refl tt (search rules)
    (entries_taken _ _ _ c.loop-count.reader c.pass.new.self _ _ c.loop-count.invariant.counted (rw c.if-branch.false at c.in_ok-pass.ensures.reads) c.in_ok-pass.ensures.limit))

pub returns-clause-made : goal.returns-clause-made
returns-clause-made g c =
    let reads = rw c.if-branch.false at c.in_ok-pass.ensures.reads in
    keytab_read c.each_file_has_one_answer.ensures.one _ _ _ _ _ (Ok c.into_bytes.result)
    (of_file_map IsKeytab _ (λ entries is. search rules ∙ ap ok_line is)
    (all_given _ _ _ c.loop-count.reader c.pass.new.self _ c.a_reader_tells_the_file.ensures.end c.loop-count.invariant.counted reads (rw c.if-branch.false at c.in_ok-pass.ensures.stage))) tt
    (entries_taken _ _ _ c.loop-count.reader c.pass.new.self _ _ c.loop-count.invariant.counted reads c.in_ok-pass.ensures.limit) (search rules)
