use Rattle.std.proofs.Common.{rules, arith, ◌≢◌, ◌++◌, ◌∷◌, [], All, refl, append-nil, sym}
use Rattle.krb_file_commands.proofs.FaultLaws.{err_is}
use Rattle.krb_service_command.proofs.GoingLaws.{going_bytes, left_on, line_on, piece_is, stays_on, stopped_before, stopped_more, whole_is}
use Rattle.krb_service_command.proofs.accept.Session.answer_piece.Goals as goal

pub lines-init : goal.lines-init
lines-init g c = (
  [],
  record {
    parts = refl;
    going = λ start came going. rw (append-nil came) going;
    stays = record { setup = refl; options = refl; known = λ before. before; ran = λ before. before };
    counted = refl;
  },
)

pub returns-in_err-end_line-clause-err : goal.returns-in_err-end_line-clause-err
returns-in_err-end_line-clause-err g c = λ start came going.
    let gone = c.lines.invariant.0 in
    rw (err_is c.from_residual.result c.from_residual.ensures.1, sym (whole_is came c.args.piece.now gone c.lines.left.now c.in-Some.bytes.now c.in-Some.rest.now c.lines.invariant.1.parts c.in-Some.ensures.0))
    (stopped_more c.in-Some.rest.now (c.in_err-end_line.ensures.err start (came ++ gone) (c.lines.invariant.1.going start came going)))

pub lines-preserved : goal.lines-preserved
lines-preserved g c =
    let gone = c.lines.invariant.0 in (
      gone ++ (c.in-Some.bytes.now ++ 10 ∷ []),
      record {
        parts = left_on c.args.piece.now gone c.lines.left.now c.in-Some.bytes.now c.in-Some.rest.now c.lines.invariant.1.parts c.in-Some.ensures.0;
        going = λ start came going. rw (sym (line_on came gone c.in-Some.bytes.now))
            (c.in_ok-end_line.ensures.ok start (came ++ gone) (c.lines.invariant.1.going start came going));
        stays = stays_on c.lines.invariant.1.stays c.end_line.ensures.stays;
        counted = omega (arith, c.in_ok-end_line.ensures.writes, c.lines.invariant.1.counted);
      },
    )

pub returns-in_err-extend-clause-err : goal.returns-in_err-extend-clause-err
returns-in_err-extend-clause-err g c = λ start came going.
    rw (err_is c.from_residual-in_err-extend.result c.from_residual-in_err-extend.ensures.1, sym (piece_is came c.args.piece.now c.lines.invariant.0 c.lines.left.now c.lines.invariant.1.parts))
    (stopped_before (c.lines.invariant.1.going start came going) c.lines.left.now)

pub returns-clause-ok : goal.returns-clause-ok
returns-clause-ok g c = λ start came going.
    let plain : All (λ byte. byte ≢ 10) c.lines.left.now = search rules in
    rw (sym (piece_is came c.args.piece.now c.lines.invariant.0 c.lines.left.now c.lines.invariant.1.parts))
    (going_bytes (c.lines.invariant.1.going start came going) c.extend.new.self c.lines.left.now plain (search rules))
