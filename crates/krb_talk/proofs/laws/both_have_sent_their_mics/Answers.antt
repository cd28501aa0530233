use Rattle.std.proofs.Common.{◌∙◌, ℕ, List, IsTrue, subst, sym}
use Rattle.krb_ap.specs.declared.accepted.Accepted.{Accepted}
use Rattle.krb_context.specs.declared.agreed.Options.{Options}
use Rattle.krb_talk.specs.Laws.{HasSentMics}
use Rattle.krb_talk.specs.ListMic.{Shows}
use Rattle.krb_talk.proofs.AfterList.{marks_in, sent_then_taken, taken_then_sent}
use Rattle.krb_talk.proofs.laws.both_have_sent_their_mics.Goals as goal

pub returns-clause-at_once : goal.returns-clause-at_once
returns-clause-at_once c check login strict shown =
    let begun = shown.begun_for in
    let own = marks_in _ _ _ _ _ _ shown.let_in.answer in
    subst (λ (a : Accepted). HasSentMics a check.choice login.context.value) (sym shown.let_in.accepted_is) (record {
      subkey = begun.subkey;
      subkey_is = begun.subkey_is;
      sent = taken_then_sent _ _ _ _ own.0 _ _ _ begun.begun (subst (λ (o : Options). IsTrue o.is_in_order) (sym begun.options_are) strict)
          shown.let_in.shows own.1;
    })

pub returns-clause-at_last : goal.returns-clause-at_last
returns-clause-at_last c check pending sent bytes login strict awaited finished =
    let begun = awaited.begun_for in
    let marks = awaited.asked_for.answer.marks in
    subst (λ (a : Accepted). HasSentMics a check.choice login.context.value) (sym (finished.accepted_is ∙ awaited.asked_for.accepted_is)) (record {
      subkey = begun.subkey;
      subkey_is = begun.subkey_is;
      sent = sent_then_taken _ _ check.list _ _ _ _ _ begun.begun (subst (λ (o : Options). IsTrue o.is_in_order) (sym begun.options_are) strict)
          marks (subst (λ (l : List ℕ). Shows l finished.mic pending.context login.context.value) awaited.asked_for.list_is finished.shows);
    })
