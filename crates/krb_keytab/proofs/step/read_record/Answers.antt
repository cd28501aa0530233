use Rattle.std.proofs.Common.{length, refl, ap, arith}
use Rattle.std.specs.Int.{w32}
use Rattle.std.proofs.lemmas.Int.{to_z-of_z}
use Rattle.krb_keytab.proofs.MeetLaws.{record_met, body_cut, count_is, hole_size, entry_size}
use Rattle.krb_keytab.proofs.step.read_record.Goals as goal

pub returns-then-count-given-clause-meets : goal.returns-then-count-given-clause-meets
returns-then-count-given-clause-meets g c =
    let sized = rw c.in-Some.is at c.in_ok-size.ensures.meets in
    let size = sized.meets in
    let count = count_is c.in-Some.size _ size.fits c.unsigned_abs-count.ensures.value in
    record_met g.K.Keep.kept_of _ _ _ c.given-at.result c.in-Some.size _ c.conclude.result sized c.given-at.ensures refl
    (body_cut _ _ _ c.given-at.result c.in-Some.size c.conclude.result size.fits (omega (arith, sized.moves.given, ap length size.piece_is, c.given-at.ensures)) (omega (arith, sized.moves.given, ap length size.piece_is, size.limit))
    (omega (arith, c.if-count-given.true, c.given.ensures, count)) c.conclude.ensures.runs_out)

pub returns-then-size-lt0-clause-meets : goal.returns-then-size-lt0-clause-meets
returns-then-size-lt0-clause-meets g c =
    let sized = rw c.in-Some.is at c.in_ok-size.ensures.meets in
    let fits = sized.meets.fits in
    let same = hole_size c.in-Some.size _ (rw (to_z-of_z w32 c.in-Some.size fits) at c.if-size-lt0.true) (count_is c.in-Some.size _ fits c.unsigned_abs-count.ensures.value) in
    record_met _ _ _ _ c.given-at.result c.in-Some.size _ c.pass_hole.result sized c.given-at.ensures same (c.pass_hole.ensures.meets g.K.Keep.kept_of)

pub returns-else-size-lt0-clause-meets : goal.returns-else-size-lt0-clause-meets
returns-else-size-lt0-clause-meets g c =
    let sized = rw c.in-Some.is at c.in_ok-size.ensures.meets in
    let fits = sized.meets.fits in
    let same = entry_size c.in-Some.size _ (rw (to_z-of_z w32 c.in-Some.size fits) at c.if-size-lt0.false) (count_is c.in-Some.size _ fits c.unsigned_abs-count.ensures.value) in
    record_met _ _ _ _ c.given-at.result c.in-Some.size _ c.read_content.result sized c.given-at.ensures same c.read_content.ensures.meets
