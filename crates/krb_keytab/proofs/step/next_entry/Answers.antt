use Rattle.std.proofs.Common.{refl, arith, ◌∙◌}
use Rattle.krb_file.proofs.Exits.{err_is}
use Rattle.krb_keytab.proofs.StandLaws.{passes_none, passes_hole, next_end, next_kept, next_fault}
use Rattle.krb_keytab.proofs.step.next_entry.Goals as goal

pub loop-kept-init : goal.loop-kept-init
loop-kept-init g c = record { passes = passes_none (g.F.Feed.hand c.args.feed.now); limit = c.requires.limit; failures = refl; lent = refl }

pub returns-in_err-read_record-clause-meets : goal.returns-in_err-read_record-clause-meets
returns-in_err-read_record-clause-meets g c =
    rw (err_is c.from_residual.result c.from_residual.ensures.1) (next_fault _ _ _ _ c.loop-kept.invariant.passes c.loop-kept.invariant.limit c.in_err-read_record.field-0.0 c.in_err-read_record.ensures.meets)

pub returns-in-End-clause-meets : goal.returns-in-End-clause-meets
returns-in-End-clause-meets g c = next_end _ _ _ _ c.loop-kept.invariant.passes c.loop-kept.invariant.limit (rw c.in-End.is at c.in_ok-read_record.ensures.meets)

pub loop-kept-preserved : goal.loop-kept-preserved
loop-kept-preserved g c =
    let hole = rw c.in-Hole.is at c.in_ok-read_record.ensures.meets in
    record {
      passes = passes_hole _ _ _ _ c.loop-kept.invariant.passes hole;
      limit = omega (arith, hole.moves.given, hole.meets.limit);
      failures = omega (arith, c.in_ok-read_record.ensures.failed, c.loop-kept.invariant.failures);
      lent = c.in_ok-read_record.ensures.lent ∙ c.loop-kept.invariant.lent;
    }

pub returns-in-Entry-clause-meets : goal.returns-in-Entry-clause-meets
returns-in-Entry-clause-meets g c = next_kept _ _ _ _ c.loop-kept.invariant.passes c.in-Entry.kept (rw c.in-Entry.is at c.in_ok-read_record.ensures.meets)
