use Rattle.std.proofs.Common.{◌∙◌, arith, refl, rules, None, Ok, Err}
use Rattle.krb_keytab.specs.Format.{IsKeytab}
use Rattle.krb_keytab.specs.declared.fault.KeytabFault.TheVariants.{OutOfMemory}
use Rattle.krb_file_commands.proofs.FaultLaws.{err_is}
use Rattle.krb_file_commands.proofs.FileLaws.{of_file_map}
use Rattle.krb_file_commands.proofs.ReadingLaws.{keytab_read, lacking}
use Rattle.krb_file_commands.proofs.WalkLaws.{gives_reads, one_listed, all_given, fault_given, entries_taken}
use Rattle.krb_file_commands.proofs.lines.LinesFromEntries.from_entries.Goals as goal

pub returns-in_err-entry-clause-made : goal.returns-in_err-entry-clause-made
returns-in_err-entry-clause-made g c =
    let next = c.in_err-entry.ensures in
    let reads = gives_reads _ _ _ _ (Err c.in_err-entry.field-0.0) next.reads in
    rw (err_is c.from_residual.result c.from_residual.ensures.1)
    (keytab_read c.each_file_has_one_answer.ensures.one _ _ _ _ _ (Err c.in_err-entry.field-0.0) tt
    (fault_given _ _ _ c.loop-lines.reader c.next.new.self _ c.in_err-entry.field-0.0 c.a_reader_tells_the_file.ensures.fault c.loop-lines.invariant.listed reads next.stage)
    (entries_taken _ _ _ c.loop-lines.reader c.next.new.self _ _ c.loop-lines.invariant.listed reads next.limit) (search rules))

pub returns-in_err-write_entry-clause-made : goal.returns-in_err-write_entry-clause-made
returns-in_err-write_entry-clause-made g c =
    rw (err_is c.from_residual-in_err-write_entry.result c.from_residual-in_err-write_entry.ensures.1)
    (lacking _ _ _ _ _ _ _ _ _ OutOfMemory refl tt (search rules)
    (entries_taken _ _ _ c.loop-lines.reader c.next.new.self _ _ c.loop-lines.invariant.listed (gives_reads _ _ _ _ c.next.result c.next.ensures.reads) c.next.ensures.limit))

pub loop-lines-preserved : goal.loop-lines-preserved
loop-lines-preserved g c =
    let failed = rw c.loop-lines.invariant.going at c.in_ok-entry.ensures.failed in
    record {
      listed = one_listed _ _ _ c.loop-lines.reader c.next.new.self _ _ c.in-Some.entry c.loop-lines.invariant.listed (rw c.in-Some.is at c.in_ok-entry.ensures.reads) c.in_ok-write_entry.ensures;
      going = rw (c.in_ok-entry.ensures.stage, c.in-Some.is) refl;
      failures = omega (arith, failed, c.loop-lines.invariant.failures);
      lent = c.in_ok-entry.ensures.lent ∙ c.loop-lines.invariant.lent;
    }

pub returns-clause-made : goal.returns-clause-made
returns-clause-made g c =
    let reads = gives_reads _ _ _ _ (Ok None) (rw c.in_default.is at c.in_ok-entry.ensures.reads) in
    keytab_read c.each_file_has_one_answer.ensures.one _ _ _ _ _ (Ok c.into_bytes.result)
    (of_file_map IsKeytab _ (λ entries is. search rules ∙ is)
    (all_given _ _ _ c.loop-lines.reader c.next.new.self _ c.a_reader_tells_the_file.ensures.end c.loop-lines.invariant.listed reads (rw c.in_default.is at c.in_ok-entry.ensures.stage))) tt
    (entries_taken _ _ _ c.loop-lines.reader c.next.new.self _ _ c.loop-lines.invariant.listed reads c.in_ok-entry.ensures.limit) (search rules)
