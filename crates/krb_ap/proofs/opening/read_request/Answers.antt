use Rattle.krb_msg.specs.Borrowed.{ap_req_of}
use Rattle.krb_ap.specs.Setup.{arrival}
use Rattle.krb_ap.proofs.Truth.{is_so, is_not}
use Rattle.krb_ap.proofs.Stages.{begun, read, ordinary}
use Rattle.krb_ap.proofs.opening.read_request.Goals as goal

pub returns-in-Err-clause-refused : goal.returns-in-Err-clause-refused
returns-in-Err-clause-refused c = λ setup history moment. record {
  holds = (c.in-Err.ensures.only, c.in-Err.ensures.faulty);
  first = begun c.facts.ensures setup history (arrival c.args.bytes.now moment) (is_not _ _ c.begins_otherwise.ensures c.if-begins_otherwise.false);
}

pub returns-then-has-clause-refused : goal.returns-then-has-clause-refused
returns-then-has-clause-refused c = λ setup history moment. record {
  holds = record { request = ap_req_of c.in-Ok.request; message = c.in-Ok.ensures.found; holds = is_so _ _ c.has.ensures c.if-has.true };
  first = read c.facts.ensures setup history (arrival c.args.bytes.now moment) (ap_req_of c.in-Ok.request) c.in-Ok.ensures.found;
}

pub returns-then-not-is_known-clause-refused : goal.returns-then-not-is_known-clause-refused
returns-then-not-is_known-clause-refused c = λ setup history moment. record {
  holds = record { request = ap_req_of c.in-Ok.request; message = c.in-Ok.ensures.found; holds = is_not _ _ c.is_known.ensures c.if-not-is_known.true };
  first = ordinary c.facts.ensures setup history (arrival c.args.bytes.now moment) (ap_req_of c.in-Ok.request) c.in-Ok.ensures.found
      (is_not _ _ c.has.ensures c.if-has.false);
}

pub returns-clause-read : goal.returns-clause-read
returns-clause-read c = record {
  message = c.in-Ok.ensures.found;
  ordinary = is_not _ _ c.has.ensures c.if-has.false;
  known = is_so _ _ c.is_known.ensures c.if-not-is_known.false;
}
