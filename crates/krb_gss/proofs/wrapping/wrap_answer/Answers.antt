use Rattle.krb_gss.specs.Answer.{message_of}
use Rattle.krb_gss.proofs.WrittenLaws.{ok-both, answer-token}
use Rattle.krb_gss.proofs.wrapping.wrap_answer.Goals as goal

pub returns-clause-answer : goal.returns-clause-answer
returns-clause-answer c =
    let p = c.parts-state.ensures in
    ok-both c.wrap.result (λ b. answer-token c.args.wrapping c.args.mechanism (message_of c.args.answer) b.items) (rw (p.state, p.id, p.message) at c.wrap.ensures.written) c.wrap.ensures.within
