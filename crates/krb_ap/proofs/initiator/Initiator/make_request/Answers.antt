use Rattle.std.proofs.Common.{subst}
use Rattle.krb_ccache.specs.Value.{Cache}
use Rattle.krb_ap.specs.Credentials.{IsUsed}
use Rattle.krb_ap.proofs.Prevented.{if_ok_both, requested}
use Rattle.krb_ap.proofs.initiator.Initiator.make_request.Goals as goal

pub returns-in-Some-clause-request : goal.returns-in-Some-clause-request
returns-in-Some-clause-request c = if_ok_both c.request.result
    (λ made built kept. requested c.args.self.now c.args.service.now c.args.at c.in_ok-credential.credential.now
    (subst (λ (cache : Cache). IsUsed cache c.args.service.now c.args.at c.in_ok-credential.credential.now) c.self.view_is c.in_ok-credential.ensures.used)
    c.args.confounder.now c.args.options made.0.items made.1 built kept)
    c.request.ensures.built c.request.ensures.awaited

pub returns-clause-request : goal.returns-clause-request
returns-clause-request c = if_ok_both c.request-made.result
    (λ made built kept. requested c.args.self.now c.args.service.now c.args.at c.in_ok-credential.credential.now
    (subst (λ (cache : Cache). IsUsed cache c.args.service.now c.args.at c.in_ok-credential.credential.now) c.self.view_is c.in_ok-credential.ensures.used)
    c.args.confounder.now c.args.options made.0.items made.1 built kept)
    c.request-made.ensures.built c.request-made.ensures.awaited
