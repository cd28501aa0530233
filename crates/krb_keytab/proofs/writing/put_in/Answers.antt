use Rattle.std.proofs.Common.{arith, inl, inr}
use Rattle.krb_keytab.proofs.AddLaws.{fills_hole, appends, passing_no_room, passing_is_long}
use Rattle.krb_keytab.proofs.writing.put_in.Goals as goal

-- ---- a hole has room

pub returns-in-Hole-clause-ok : goal.returns-in-Hole-clause-ok
returns-in-Hole-clause-ok c = inl (fills_hole c.args.entry.now (rw c.in-Hole.is at c.requires.room) c.fill_in.ensures.fits c.fill_in.ensures.filled)

pub returns-in-Hole-clause-too_long : goal.returns-in-Hole-clause-too_long
returns-in-Hole-clause-too_long c = λ passes. absurd (passing_no_room passes (rw c.in-Hole.is at c.requires.room))

-- ---- no hole has room

pub returns-in_err-put_record-in-End-clause-too_long : goal.returns-in_err-put_record-in-End-clause-too_long
returns-in_err-put_record-in-End-clause-too_long c = λ passes.
    let none = rw c.in-End.is at c.requires.room in
    absurd (passing_is_long c.in-End.end passes none (omega (arith, c.if-end-size.false, c.requires.size, none.holds.0)))

pub returns-in_ok-put_record-in-End-clause-puts : goal.returns-in_ok-put_record-in-End-clause-puts
returns-in_ok-put_record-in-End-clause-puts c =
    let none = rw c.in-End.is at c.requires.room in
    let put = c.in_ok-put_record-in-End.ensures in
    rw c.in-End.is (appends c.args.entry.now c.in-End.end none (omega (arith, c.if-end-size.false, c.requires.size, none.holds.0)) put.fits put.ok)

pub returns-in_ok-put_record-in-End-clause-ok : goal.returns-in_ok-put_record-in-End-clause-ok
returns-in_ok-put_record-in-End-clause-ok c =
    let none = rw c.in-End.is at c.requires.room in
    let put = c.in_ok-put_record-in-End.ensures in
    inr (appends c.args.entry.now c.in-End.end none (omega (arith, c.if-end-size.false, c.requires.size, none.holds.0)) put.fits put.ok)

pub returns-in_ok-put_record-in-End-clause-too_long : goal.returns-in_ok-put_record-in-End-clause-too_long
returns-in_ok-put_record-in-End-clause-too_long c = λ passes.
    let none = rw c.in-End.is at c.requires.room in
    absurd (passing_is_long c.in-End.end passes none (omega (arith, c.if-end-size.false, c.requires.size, none.holds.0)))
