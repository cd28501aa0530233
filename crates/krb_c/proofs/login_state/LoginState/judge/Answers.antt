use Rattle.std.proofs.Common.{subst, sym}
use Rattle.std.specs.Prelude.{Option, Vec, ℕ}
use Rattle.std.specs.Option.{MatchOption}
use Rattle.std.specs.declared.alloc.Global.{Global}
use Rattle.krb_c.specs.Login.{IsDecided, IsStepped}
use Rattle.krb_c.proofs.login_state.LoginState.judge.Goals as goal

pub returns-in-Some : goal.returns-in-Some
returns-in-Some c =
    subst (λ (message : Option (Vec ℕ Global)). MatchOption message
    (IsDecided c.args.service.now c.step.new.service c.args.self.now.talk c.step.new.self c.step.new.kept c.args.given.bytes.now c.args.given.now c.args.given.confounder.now c.args.given.choice)
    (λ it. IsStepped c.args.service.now c.step.new.service c.args.self.now.talk c.step.new.self c.step.new.kept it.items c.args.given.now c.args.given.confounder.now c.args.given.choice))
    (sym c.in-Some.is) c.step.ensures

pub returns-in-None : goal.returns-in-None
returns-in-None c =
    subst (λ (message : Option (Vec ℕ Global)). MatchOption message
    (IsDecided c.args.service.now c.decide.new.service c.args.self.now.talk c.decide.new.self c.decide.new.kept c.args.given.bytes.now c.args.given.now c.args.given.confounder.now c.args.given.choice)
    (λ it. IsStepped c.args.service.now c.decide.new.service c.args.self.now.talk c.decide.new.self c.decide.new.kept it.items c.args.given.now c.args.given.confounder.now c.args.given.choice))
    (sym c.in-None.is) c.decide.ensures
