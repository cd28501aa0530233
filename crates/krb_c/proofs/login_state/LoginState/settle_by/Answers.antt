-- settle_by
use Rattle.std.proofs.Common.{List, ℕ, subst}
use Rattle.krb_ap.specs.declared.reply.ReplyOptions.{ReplyOptions}
use Rattle.krb_login.specs.Store.{Settles}
use Rattle.krb_talk.specs.Talks.{Talk}
use Rattle.krb_c.specs.Login.{IsConcluded}
use Rattle.krb_c.specs.declared.login_state.Awaited.{Awaited}
use Rattle.krb_c.proofs.login_state.LoginState.settle_by.Goals as goal

pub returns : goal.returns
returns c question same talk =
    let decided = c.settle-decided.result in
    let it = c.conclude_kept.ensures in
    let settles = subst (λ (choice : ReplyOptions). Settles c.args.awaited.asking c.args.said c.args.now c.args.awaited.drawn.confounder choice decided)
    c.choice_again-again.ensures c.settle-decided.ensures in
    let message = subst (λ (bytes : List ℕ). IsConcluded bytes c.args.awaited.drawn.confounder c.args.awaited.drawn.choice c.args.self.now.talk
    c.args.awaited.negotiation decided it.0 c.conclude_kept.new.self.talk) c.as_slice-message.ensures.value it.1.0 in
    let awaited = subst (λ (w : Awaited). IsConcluded w.message.items w.drawn.confounder w.drawn.choice c.args.self.now.talk w.negotiation decided it.0
    c.conclude_kept.new.self.talk) same message in
    record {
      decided = decided;
      decision = it.0;
      settles = subst (λ (w : Awaited). Settles w.asking c.args.said c.args.now w.drawn.confounder w.drawn.choice decided) same settles;
      concluded = subst (λ (t : Talk). IsConcluded question.message.items question.confounder question.choice t question.negotiation decided it.0
          c.conclude_kept.new.self.talk) talk awaited;
      is_kept = it.1.1;
    }
