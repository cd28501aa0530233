-- take
use Rattle.std.proofs.Common.{refl}
use Rattle.krb_c.proofs.Logins.{taken}
use Rattle.krb_c.proofs.login_state.LoginState.take.Goals as goal

pub returns-in-Decided : goal.returns-in-Decided
returns-in-Decided c = record {
  decision = c.in-Decided.decision;
  taken = taken _ _ _ _ _ c.take.new.self _ refl c.in-Decided.is c.keep.ensures.talk c.take.ensures.takes c.take.ensures.options;
  is_kept = c.keep.ensures.is_kept;
}
