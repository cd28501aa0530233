use Rattle.std.proofs.Common.{◌≡◌, refl}
use Rattle.krb_c.specs.Inner.{settled_at}
use Rattle.krb_c.specs.Store.{Waits}
use Rattle.krb_c.specs.declared.login_state.Progress.{Progress}
use Rattle.krb_c.specs.declared.login_state.Progress.TheVariants.{Nothing, Waiting, Decided}
use Rattle.krb_c.specs.declared.question.Question.{Question}
use Rattle.krb_c.proofs.login_state.LoginState.settle.Goals as goal

waiting : (progress : Progress) → Waits progress → (question : Question) × (progress ≡ Waiting question)
waiting Nothing it = absurd it
waiting (Waiting question) it = (question, refl)
waiting (Decided outcome) it = absurd it

pub returns : goal.returns
returns c =
    let found = waiting c.args.self.now.progress (c.waits.ensures.0 c.if-not-waits.false) in
    settled_at found.0 c.settle_waiting.new.kept found.1 c.put.ensures (c.settle_waiting.ensures found.0 found.1) c.answer.ensures
