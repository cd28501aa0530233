use Rattle.std.proofs.Common.{◌≡◌, ◌∙◌, ap, refl, subst, sym}
use Rattle.krb_talk.specs.Talks.{Talk}
use Rattle.krb_c.specs.Inner.{decided_on, no_room, undrawn}
use Rattle.krb_c.specs.Login.{Judges, TellsProgress, talk_of}
use Rattle.krb_c.specs.declared.login_state.LoginState.{LoginState}
use Rattle.krb_c.proofs.Logins.{judged}
use Rattle.krb_c.proofs.login.Login.answer.Goals as goal

pub returns-in-Err : goal.returns-in-Err
returns-in-Err c = undrawn c.in-Err.ensures.fault refl refl refl refl

pub returns-in_default : goal.returns-in_default
returns-in_default c = no_room c.in-Ok.drawn.0 c.in-Ok.drawn.1 c.in-Ok.ensures.drawn c.plain.ensures refl refl refl refl

pub returns-in_default-message_if : goal.returns-in_default-message_if
returns-in_default-message_if c =
    no_room c.in-Ok.drawn.0 c.in-Ok.drawn.1 c.in-Ok.ensures.drawn c.plain-in_default-message_if.ensures refl refl refl refl

pub returns-in_default-held_by : goal.returns-in_default-held_by
returns-in_default-held_by c =
    no_room c.in-Ok.drawn.0 c.in-Ok.drawn.1 c.in-Ok.ensures.drawn c.plain-in_default-held_by.ensures refl
    (c.in_default-held_by.ensures.1 ∙ sym c.in_default-held_by.ensures.0) refl refl

pub returns : goal.returns
returns c =
    let talk : talk_of c.args.self.now.held.value ≡ c.deref_mut.result.now.talk =
    c.in-Some-held_by.ensures ∙ ap (λ (state : LoginState). state.talk) (sym c.deref_mut.ensures.value) in
    decided_on c.judge.new.self c.judge.new.kept c.in-Ok.drawn.0 c.in-Ok.drawn.1 c.put.ensures c.put-2.ensures c.in-Ok.ensures.drawn
    (subst (λ (before : Talk). Judges c.args.service.now.is_shared c.args.service.now c.judge.new.service before c.judge.new.self c.judge.new.kept c.args.input.now c.args.now c.in-Ok.drawn.0 c.in-Ok.drawn.1)
    (sym talk) (judged _ _ _ _ _ _ _ _ _ _ _ c.in-Ok-message_if.ensures c.judge.ensures))
    (subst (λ (state : LoginState). TellsProgress state.progress c.args.out.now c.answer-answer.new.out c.answer-answer.result) c.deref.ensures c.answer-answer.ensures)
