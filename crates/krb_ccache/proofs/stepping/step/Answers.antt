use Rattle.krb_ccache.proofs.StepLaws.{was_made}
use Rattle.krb_ccache.proofs.stepping.step.Goals as goal

pub returns-in_ok-credential_of-clause-step : goal.returns-in_ok-credential_of-clause-step
returns-in_ok-credential_of-clause-step g c =
    let past = rw c.if-branch.true at c.in_ok-step_past.ensures.step in
    was_made c.args.layout (g.F.Feed.hand c.args.feed.now) (g.F.Feed.hand c.step_past.new.feed) past.0 c.bytes.result.now c.in_ok-credential_of.field-0 past.1 past.2 past.3 c.bytes.ensures.bytes c.in_ok-credential_of.ensures
