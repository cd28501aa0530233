-- conclude
use Rattle.std.proofs.Common.{refl}
use Rattle.krb_c.proofs.Logins.{concluded}
use Rattle.krb_c.proofs.login_state.LoginState.conclude.Goals as goal

pub returns : goal.returns
returns c = (
  c.conclude-decision.result,
  (
    concluded _ _ _ _ _ _ _ _ _ c.conclude-decision.new.self _ refl refl c.keep_outcome.ensures.talk c.conclude-decision.ensures.concludes c.conclude-decision.ensures.options,
    c.keep_outcome.ensures.progress,
  ),
)
