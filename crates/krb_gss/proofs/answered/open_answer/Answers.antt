use Rattle.std.proofs.Common.{sym, ap}
use Rattle.krb_gss.specs.declared.mechanism.Mechanism.{Mechanism}
use Rattle.krb_gss.specs.declared.opening.Wrapping.{Wrapping}
use Rattle.krb_gss.specs.Answer.{message_of, Stands}
use Rattle.krb_gss.proofs.ReadLaws.{reads-answer}
use Rattle.krb_gss.proofs.OpenLaws.{AsAnswer, fault-at-exit, unread-only, unread-faulty, unheld-only, unheld-faulty, whole-found, one-whole, one_answer}
use Rattle.krb_gss.proofs.answered.open_answer.Goals as goal

pub returns-in_err-wrapping-clause-only : goal.returns-in_err-wrapping-clause-only
returns-in_err-wrapping-clause-only c w m message t = absurd (unread-only AsAnswer reads-answer Stands c.args.bytes.now (sym c.in_err-wrapping.ensures) (w, m) message t)

pub returns-in_err-wrapping-clause-faulty : goal.returns-in_err-wrapping-clause-faulty
returns-in_err-wrapping-clause-faulty c = fault-at-exit _ _ c.from_residual.ensures.1 (unread-faulty AsAnswer reads-answer Stands c.args.bytes.now (sym c.in_err-wrapping.ensures))

pub returns-in_err-answer-clause-only : goal.returns-in_err-answer-clause-only
returns-in_err-answer-clause-only c w m message t = absurd (unheld-only AsAnswer reads-answer Stands c.args.bytes.now (sym c.in_ok-wrapping.ensures) c.in_err-answer.ensures.faulty (w, m) message t)

pub returns-in_err-answer-clause-faulty : goal.returns-in_err-answer-clause-faulty
returns-in_err-answer-clause-faulty c = fault-at-exit _ _ c.from_residual-in_err-answer.ensures.1 (unheld-faulty AsAnswer reads-answer Stands c.args.bytes.now (sym c.in_ok-wrapping.ensures) c.in_err-answer.ensures.faulty)

pub returns-clause-found : goal.returns-clause-found
returns-clause-found c = whole-found AsAnswer reads-answer Stands c.args.bytes.now (sym c.in_ok-wrapping.ensures) (message_of c.in_ok-answer.answer) c.in_ok-answer.ensures.found

pub returns-clause-only : goal.returns-clause-only
returns-clause-only c w m message t =
    let s = one-whole AsAnswer reads-answer Stands c.args.bytes.now (sym c.in_ok-wrapping.ensures) one_answer (message_of c.in_ok-answer.answer) c.in_ok-answer.ensures.found (w, m) message t in
    record { wrapping_is = ap (λ (x : Wrapping × Mechanism). x.0) s.0; mechanism_is = ap (λ (x : Wrapping × Mechanism). x.1) s.0; message_is = s.1 }
