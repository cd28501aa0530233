use Rattle.std.proofs.Common.{◌∷◌, ◌++◌, [], inl}
use Rattle.krb_file.proofs.Exits.{err_is}
use Rattle.krb_keytab.specs.Format.{entry, hole}
use Rattle.krb_keytab.proofs.ScanLaws.{hole_passed, entry_passed, stopped, no_memory, no_read}
use Rattle.krb_keytab.proofs.finding.read_all.Goals as goal

pub returns-in_err-found-clause-fault : goal.returns-in_err-found-clause-fault
returns-in_err-found-clause-fault g c =
    let read = c.in_err-found.ensures in
    rw (err_is c.from_residual-in_err-found.result c.from_residual-in_err-found.ensures.1) (inl (stopped _ c.each_record.invariant.spans c.in_err-found.field-0.0 c.each_record.invariant.limit read.meets (no_memory _ read.memory, no_read _ read.failed)))

pub each_record-preserved-in-Continue-branch-3 : goal.each_record-preserved-in-Continue-branch-3
each_record-preserved-in-Continue-branch-3 g c =
    let now = c.each_record.invariant in
    let read = rw c.in-Hole.is at c.in_ok-found.ensures.meets in
    let passed = hole_passed c.read_record.new.feed now.spans read in
    record {
      records = now.records ++ hole passed.ignored ∷ [];
      spans = passed.passes.spans;
      limit = passed.passes.limit;
      has = c.in_ok-hole-in-Hole.ensures.has c.args.gathered.now now.records passed.ignored (rw (c.given-from.ensures, c.given-to.ensures) passed.passes.lies) now.has;
    }

pub each_record-preserved : goal.each_record-preserved
each_record-preserved g c =
    let now = c.each_record.invariant in
    let read = rw c.in-Entry.is at c.in_ok-found.ensures.meets in
    let passed = entry_passed c.read_record.new.feed now.spans read in
    record {
      records = now.records ++ entry passed.e passed.short_kvno passed.rest ∷ [];
      spans = passed.passes.spans;
      limit = passed.passes.limit;
      has = c.in_ok-entry-in-Entry.ensures.has c.args.gathered.now now.records passed.e passed.short_kvno passed.rest (rw (c.given-from.ensures, c.given-to.ensures) passed.passes.lies) now.has;
    }
