-- decide
use Rattle.std.proofs.Common.{refl}
use Rattle.krb_c.specs.Login.{by_itself, by_service}
use Rattle.krb_c.proofs.login_state.LoginState.decide.Goals as goal

pub returns-in-Some : goal.returns-in-Some
returns-in-Some c = by_service c.in-Some.negotiation c.take.new.self.talk c.in-Some.ensures c.serve.ensures

pub returns-in-None : goal.returns-in-None
returns-in-None c = by_itself c.in-None.ensures.decision c.in-None.ensures.taken c.in-None.ensures.is_kept refl
