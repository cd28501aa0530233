use Rattle.std.proofs.Common.{◌∙◌, sym, ap}
use Rattle.krb_msg.specs.Borrowed.{ap_req_of}
use Rattle.krb_ap.specs.Opened.{service_of}
use Rattle.krb_login.proofs.asked.asked_of.Goals as goal

pub returns-in_default : goal.returns-in_default
returns-in_default c = λ asks. c.in_default.ensures.only asks.0 asks.1.0.message

pub returns : goal.returns
returns c = λ asks.
    record {
      request = ap_req_of c.in-Ok.request;
      message = c.in-Ok.ensures.found;
      asked_is = c.asked_with.ensures (asks.1.1 ∙ ap service_of (sym (c.in-Ok.ensures.only asks.0 asks.1.0.message)));
    }
