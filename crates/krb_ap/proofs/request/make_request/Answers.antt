use Rattle.krb_ap.proofs.Prevented.{if_ok_both, requested}
use Rattle.krb_ap.proofs.request.make_request.Goals as goal

pub returns-clause-request : goal.returns-clause-request
returns-clause-request c = if_ok_both c.request.result
    (λ made built kept. requested c.args.cache.now c.args.service.now c.args.at c.in_ok-credential.credential.now c.in_ok-credential.ensures.used
    c.args.confounder.now c.args.options made.0.items made.1 built kept)
    c.request.ensures.built c.request.ensures.awaited
