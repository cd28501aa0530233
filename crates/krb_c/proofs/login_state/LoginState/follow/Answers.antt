use Rattle.std.proofs.Common.{List, ℕ, subst}
use Rattle.krb_c.specs.Login.{IsConcluded}
use Rattle.krb_c.proofs.Logins.{to_asked, to_decided}
use Rattle.krb_c.proofs.login_state.LoginState.follow.Goals as goal

pub returns-in-Decided : goal.returns-in-Decided
returns-in-Decided c =
    let it = c.conclude.ensures in
    to_decided _ _ _ _ _ _ _ c.in-Decided.decided it.0 c.conclude.new.self c.in-Decided.is
    (subst (λ (bytes : List ℕ). IsConcluded bytes c.args.drawn.confounder c.args.drawn.choice c.args.self.now.talk c.args.next c.in-Decided.decided it.0 c.conclude.new.self.talk)
    c.as_slice.ensures.value it.1.0) it.1.1

pub returns-in-Ask : goal.returns-in-Ask
returns-in-Ask c = to_asked _ _ _ _ _ _ _ c.in-Ask.asking c.wait.new.self c.in-Ask.is c.wait.ensures
