use Rattle.std.proofs.Common.{arith}
use Rattle.std.proofs.lemmas.List.{length-take, length-drop}
use Rattle.krb_file.proofs.Moves.{Appends-more}
use Rattle.krb_file.proofs.writing.write_all.Goals as goal

pub loop-done-preserved : goal.loop-done-preserved
loop-done-preserved g c =
    let bytes = c.args.bytes.now in
    let done = c.loop-done.done in
    let bound = simp (length-take, length-drop) at c.in_ok-done.ensures.bound in
    record {
      within = omega (arith, bound);
      written = Appends-more _ _ _ bytes done c.in_ok-done.field-0 c.loop-done.invariant.written c.in_ok-done.ensures.bytes;
      failures = omega (arith, c.in_ok-done.ensures.failed, c.loop-done.invariant.failures);
    }
