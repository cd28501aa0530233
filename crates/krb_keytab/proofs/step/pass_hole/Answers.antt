use Rattle.std.proofs.Common.{arith}
use Rattle.krb_keytab.proofs.MeetLaws.{hole_whole, peaks_kept}
use Rattle.krb_keytab.proofs.step.pass_hole.Goals as goal

pub returns-in-Ok-true-clause-meets : goal.returns-in-Ok-true-clause-meets
returns-in-Ok-true-clause-meets g c = λ of_entry.
    let passes = c.in-Ok-true.ensures.passes in
    let came = rw c.in-Ok-true.field-0-test at passes.came in
    record {
      piece = passes.piece;
      moves = record { consumed = passes.skips.consumed; given = passes.skips.given; limit = λ l. omega (arith, passes.skips.given, came, c.requires.at, c.requires.limit) };
      peaks = peaks_kept _ passes.piece _ _ (omega arith) passes.skips.peak;
      meets = hole_whole c.args.at c.args.count passes.piece c.requires.some c.requires.limit came;
    }
