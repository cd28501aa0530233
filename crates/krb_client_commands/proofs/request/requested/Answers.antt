use Rattle.std.proofs.Common.{subst}
use Rattle.krb_ap.specs.Request.{IsRequest}
use Rattle.krb_ap.specs.declared.request.RequestOptions.{RequestOptions}
use Rattle.krb_client_commands.proofs.request.requested.Goals as goal

pub returns-clause-request : goal.returns-clause-request
returns-clause-request c =
    let asked = c.args.asked.now in
    record {
      awaited = c.in_ok-bytes.field-0-1;
      request = subst (λ (o : RequestOptions). IsRequest c.args.cache.now asked.service asked.at asked.confounder o c.in_ok-bytes.bytes.items c.in_ok-bytes.field-0-1)
          c.options_of-options.ensures c.in_ok-bytes.ensures.request;
    }
