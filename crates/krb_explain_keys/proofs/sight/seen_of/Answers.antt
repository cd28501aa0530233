use Rattle.std.proofs.Common.{inl, inr, rules}
use Rattle.krb_msg.specs.Borrowed.{ap_req_of}
use Rattle.krb_explain_keys.proofs.OpeningLaws.{if_ok}
use Rattle.krb_explain_keys.proofs.sight.seen_of.Goals as goal

pub returns-in-Ok : goal.returns-in-Ok
returns-in-Ok c = if_ok c.seen_of_request.result
    (λ seen sees. inr (record { request = ap_req_of c.in-Ok.request; message = c.in-Ok.ensures.found; sees = sees }))
    c.seen_of_request.ensures

pub returns-in-Err : goal.returns-in-Err
returns-in-Err c = inl (record { none = c.in-Err.ensures.only; sees = search rules; request_is = c.seen_none.ensures.of_request })
