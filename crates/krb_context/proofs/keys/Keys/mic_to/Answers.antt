use Rattle.std.proofs.Common.{◌≡◌, ◌∙◌}
use Rattle.krb_context.proofs.keys.Keys.mic_to.Goals as goal

pub returns-in-Some : goal.returns-in-Some
returns-in-Some c =
    let own : c.deref.result.now ≡ c.args.self.now = c.deref.ensures ∙ ((rw c.in-Some.is at c.self.invariant.0) ∙ c.self.view_is) in
    rw own at c.mic_to.ensures

pub returns-in-None : goal.returns-in-None
returns-in-None c = rw (c.new.ensures ∙ c.self.view_is) at c.mic_to-in-None.ensures
