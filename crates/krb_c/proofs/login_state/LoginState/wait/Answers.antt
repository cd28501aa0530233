use Rattle.std.proofs.Common.{◌≡◌, ◌∙◌, refl}
use Rattle.krb_c.specs.Login.{over_talk}
use Rattle.krb_c.proofs.Logins.{over_is}
use Rattle.krb_c.proofs.login_state.LoginState.wait.Goals as goal

pub returns : goal.returns
returns c =
    let over : c.end.new.self ≡ over_talk = over_is c.end.new.self c.end.ensures.ended (c.end.ensures.options ∙ c.new-over.ensures.options) in
    record {
      question = record {
        asking = c.args.asking;
        confounder = c.args.drawn.confounder;
        choice = c.args.drawn.choice;
        message = c.args.message;
        negotiation = c.args.next;
        talk = c.replace-talk.result;
      };
      progress = c.set.ensures.progress;
      asking_is = refl;
      confounder_is = refl;
      choice_is = refl;
      message_is = refl;
      negotiation_is = refl;
      talk_is = c.replace-talk.ensures.value;
      over = c.set.ensures.talk ∙ (c.replace-talk.ensures.after ∙ over);
    }
