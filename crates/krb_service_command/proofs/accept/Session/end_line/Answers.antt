use Rattle.std.proofs.Common.{rules, ◌++◌, [], ◌∷◌, append_assoc}
use Rattle.krb_file_commands.proofs.FaultLaws.{err_is}
use Rattle.krb_service_command.proofs.GoingLaws.{going_bytes, going_line, stopped_before, stopped_within}
use Rattle.krb_service_command.proofs.accept.Session.end_line.Goals as goal

pub returns-in_err-extend-clause-err : goal.returns-in_err-extend-clause-err
returns-in_err-extend-clause-err g c = λ start came going.
    rw (err_is c.from_residual.result c.from_residual.ensures.1, append_assoc came c.args.bytes.now (10 ∷ [])) (stopped_before going (c.args.bytes.now ++ 10 ∷ []))

pub returns-in_err-answer_line-clause-err : goal.returns-in_err-answer_line-clause-err
returns-in_err-answer_line-clause-err g c = λ start came before.
    let going = going_bytes before c.extend.new.self c.args.bytes.now c.requires.plain (search rules) in
    rw (err_is c.from_residual-in_err-answer_line.result c.from_residual-in_err-answer_line.ensures.1)
    (stopped_within going c.answer_line.ensures.stays (c.in_err-answer_line.ensures.err going.end going.rest going.stands going.holds))

pub returns-clause-ok : goal.returns-clause-ok
returns-clause-ok g c = λ start came before.
    let going = going_bytes before c.extend.new.self c.args.bytes.now c.requires.plain (search rules) in
    going_line going c.clear.new.self c.clear.ensures c.answer_line.ensures.stays (c.in_ok-answer_line.ensures.ok going.end going.rest going.stands going.holds)
