use Rattle.krb_gss.proofs.WrittenLaws.{ok-both, request-token}
use Rattle.krb_gss.proofs.wrapping.wrap_request.Goals as goal

pub returns-clause-token : goal.returns-clause-token
returns-clause-token c = ok-both c.wrap.result (λ b. request-token c.args.wrapping c.args.mechanism c.args.request.now b.items) c.wrap.ensures.written c.wrap.ensures.within
